-- What the nodes of a graph without cycles come to, from what the free ones are given.
use Rattle.std.proofs.Common.{◌≡◌, ℕ, zero, suc, ◌<◌, Bool, true, refl, sym, ap, ap₂, ◌∙◌, arith}
use Rattle.type_graph.specs.declared.node.Word.{Word}
use Rattle.type_graph.specs.declared.node.Node.{Node}
use Rattle.type_graph.specs.declared.node.Node.TheVariants.{Free, Leaf, Apply, Same}
use Rattle.type_graph.specs.Types.{Ty, word, applied}
use Rattle.type_graph.specs.Graph.{Says, Solves, IfFree, AtFree, Lowers, IsRanked, IsAcyclic}
use Rattle.type_graph.specs.inside.Reach.{Marks}

-- how a node's value comes from those to which it leads
pub record Algebra (A : Type 0) : Type 0 where
  pub leaf : Word → A
  pub apply : A → A → A
  pub same : A → A

-- the value of a node, where a free one has `free` and those to which it leads have what `e` says
abbrev pub layer : {A : Type 0} → Algebra A → A → (ℕ → A) → Node → A
layer alg free e Free = free
layer alg free e (Leaf w) = alg.leaf w
layer alg free e (Apply l r) = alg.apply (e l) (e r)
layer alg free e (Same j) = alg.same (e j)

-- the value of a node, following at most so many steps
abbrev pub eval : {A : Type 0} → Algebra A → (ℕ → Node) → (ℕ → A) → ℕ → ℕ → A
eval alg g f zero k = f k
eval alg g f (suc n) k = layer alg (f k) (eval alg g f n) (g k)

layer-agree : {A : Type 0} (alg : Algebra A) (rank : ℕ → ℕ) (n : ℕ) (free : A) (e d : ℕ → A) → ((k : ℕ) → rank k < n → e k ≡ d k) → (x : Node) → Lowers rank n x → layer alg free e x ≡ layer alg free d x
layer-agree alg rank n free e d h Free low = refl
layer-agree alg rank n free e d h (Leaf w) low = refl
layer-agree alg rank n free e d h (Apply l r) low = ap₂ alg.apply (h l low.0) (h r low.1)
layer-agree alg rank n free e d h (Same j) low = ap alg.same (h j low)

-- enough steps are enough
eval-stable : {A : Type 0} (alg : Algebra A) (g : ℕ → Node) (f : ℕ → A) (rank : ℕ → ℕ) → IsRanked g rank → (n m k : ℕ) → rank k < n → rank k < m → eval alg g f n k ≡ eval alg g f m k
eval-stable alg g f rank ranked zero m k hn hm = absurd (omega (arith, hn))
eval-stable alg g f rank ranked (suc n) zero k hn hm = absurd (omega (arith, hm))
eval-stable alg g f rank ranked (suc n) (suc m) k hn hm =
    layer-agree alg rank (rank k) (f k) (eval alg g f n) (eval alg g f m)
    (λ j h. eval-stable alg g f rank ranked n m j (omega (arith, h, hn)) (omega (arith, h, hm))) (g k) (ranked k)

-- the value of a node
abbrev pub value : {A : Type 0} → Algebra A → (ℕ → Node) → (ℕ → A) → (ℕ → ℕ) → ℕ → A
value alg g f rank k = eval alg g f (suc (rank k)) k

pub value-at : {A : Type 0} (alg : Algebra A) (g : ℕ → Node) (f : ℕ → A) (rank : ℕ → ℕ) → IsRanked g rank → (k : ℕ) → value alg g f rank k ≡ layer alg (f k) (value alg g f rank) (g k)
value-at alg g f rank ranked k =
    layer-agree alg rank (rank k) (f k) (eval alg g f (rank k)) (value alg g f rank)
    (λ j h. eval-stable alg g f rank ranked (rank k) (suc (rank j)) j h (omega arith)) (g k) (ranked k)

-- on nodes that lead to one another alone, values depend on these nodes alone
layer-marks : {A : Type 0} (alg : Algebra A) (marks : ℕ → Bool) (free other : A) → free ≡ other → (e d : ℕ → A) → ((k : ℕ) → marks k ≡ true → e k ≡ d k) → (x : Node) → Marks marks x → layer alg free e x ≡ layer alg other d x
layer-marks alg marks free other same e d h Free m = same
layer-marks alg marks free other same e d h (Leaf w) m = refl
layer-marks alg marks free other same e d h (Apply l r) m = ap₂ alg.apply (h l m.0) (h r m.1)
layer-marks alg marks free other same e d h (Same j) m = ap alg.same (h j m)

pub eval-marks : {A : Type 0} (alg : Algebra A) (g : ℕ → Node) (f d : ℕ → A) (marks : ℕ → Bool) → ((k : ℕ) → marks k ≡ true → Marks marks (g k)) → ((k : ℕ) → marks k ≡ true → f k ≡ d k) → (n k : ℕ) → marks k ≡ true → eval alg g f n k ≡ eval alg g d n k
eval-marks alg g f d marks closed agree zero k m = agree k m
eval-marks alg g f d marks closed agree (suc n) k m =
    layer-marks alg marks (f k) (d k) (agree k m) (eval alg g f n) (eval alg g d n) (λ j h. eval-marks alg g f d marks closed agree n j h) (g k) (closed k m)

-- types as values
abbrev types : Algebra Ty
types = record { leaf = word; apply = applied; same = λ t. t }

says : (v : ℕ → Ty) (t free : Ty) (x : Node) → t ≡ layer types free v x → Says v t x
says v t free Free e = tt
says v t free (Leaf w) e = e
says v t free (Apply l r) e = e
says v t free (Same j) e = e

given : (v : ℕ → Ty) (t free : Ty) (x : Node) → t ≡ layer types free v x → IfFree x (t ≡ free)
given v t free Free e = e
given v t free (Leaf w) e = tt
given v t free (Apply l r) e = tt
given v t free (Same j) e = tt

-- each choice of types for the free nodes is met by a solution
pub solution : (g : ℕ → Node) → IsAcyclic g → (f : ℕ → Ty) → (v : ℕ → Ty) × Solves g v × AtFree g f v
solution g a f =
    let v = value types g f a.rank in
    (v, (λ k. says v (v k) (f k) (g k) (value-at types g f a.rank a.ranked k)), (λ k. given v (v k) (f k) (g k) (value-at types g f a.rank a.ranked k)))

-- and by no other one
same-at : (v w f : ℕ → Ty) (s t free : Ty) (rank : ℕ → ℕ) (n : ℕ) → ((k : ℕ) → rank k < n → v k ≡ w k) → (x : Node) → Lowers rank n x → Says v s x → Says w t x → IfFree x (s ≡ free) → IfFree x (t ≡ free) → s ≡ t
same-at v w f s t free rank n h Free low a b p q = p ∙ sym q
same-at v w f s t free rank n h (Leaf u) low a b p q = a ∙ sym b
same-at v w f s t free rank n h (Apply l r) low a b p q = a ∙ ap₂ applied (h l low.0) (h r low.1) ∙ sym b
same-at v w f s t free rank n h (Same j) low a b p q = a ∙ h j low ∙ sym b

one-below : (g : ℕ → Node) (rank : ℕ → ℕ) → IsRanked g rank → (f v w : ℕ → Ty) → Solves g v → Solves g w → AtFree g f v → AtFree g f w → (n k : ℕ) → rank k < n → v k ≡ w k
one-below g rank ranked f v w sv sw fv fw zero k h = absurd (omega (arith, h))
one-below g rank ranked f v w sv sw fv fw (suc n) k h =
    same-at v w f (v k) (w k) (f k) rank (rank k) (λ j l. one-below g rank ranked f v w sv sw fv fw n j (omega (arith, l, h))) (g k) (ranked k) (sv k) (sw k) (fv k) (fw k)

pub one-solution : (g : ℕ → Node) → IsAcyclic g → (f v w : ℕ → Ty) → Solves g v → Solves g w → AtFree g f v → AtFree g f w → (k : ℕ) → v k ≡ w k
one-solution g a f v w sv sw fv fw k = one-below g a.rank a.ranked f v w sv sw fv fw (suc (a.rank k)) k (omega arith)
