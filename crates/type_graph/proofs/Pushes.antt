-- A node is added to a graph.
use Rattle.std.proofs.Common.{◌≡◌, ◌⊎◌, inl, inr, ℕ, zero, suc, ◌+◌, ◌<◌, ◌≤◌, ◌++◌, List, [], ◌∷◌, length, cond, nat_eq, Bool, true, false, refl, sym, ap, ap₂, ◌∙◌, subst, arith, get_or, ne_eqb, eq-eqb, take, length-append}
use Rattle.std.proofs.lemmas.List.{get_or_append_left, get_or_push}
use mathlib.Core.Path.{fun_ext}
use Rattle.type_graph.specs.declared.node.Node.{Node}
use Rattle.type_graph.specs.declared.node.Node.TheVariants.{Free, Leaf, Apply, Same}
use Rattle.type_graph.specs.Types.{Ty, applied}
use Rattle.type_graph.specs.Graph.{node_at, Descends, IsDescending, IsRoot, LeadsBelow, Lowers, IsAcyclic, IsGraph, IsMostGeneral, Says, Solves, IsWithin}
use Rattle.type_graph.specs.inside.Reach.{is_marked, IsClear}
use Rattle.type_graph.specs.Solved.{Settled, Unified, Agrees, Below, Adds}
use Rattle.type_graph.specs.declared.node.Pair.{Pair}
use Rattle.type_graph.proofs.Put.{put, at-put, solves-at, solves-back}
use Rattle.type_graph.proofs.Values.{solution, one-solution}

-- past the end
past : {A : Type 0} (xs : List A) (k : ℕ) (d : A) → length xs ≤ k → get_or xs k d ≡ d
past [] k d h = refl
past (x ∷ xs) zero d h = absurd (omega (arith, h))
past (x ∷ xs) (suc k) d h = past xs k d (omega (arith, h))

pub node_at-push : (ns : List Node) (x : Node) → node_at (ns ++ x ∷ []) ≡ put (node_at ns) (length ns) x
node_at-push ns x = fun_ext (λ k. sym (at-put (λ j y. y ≡ node_at (ns ++ x ∷ []) j) (node_at ns) (length ns) x (sym (get_or_push ns x Free (length ns) refl)) others k))
  where
    others : (k : ℕ) → (k ≡ length ns → ⊥) → node_at ns k ≡ node_at (ns ++ x ∷ []) k
    others k d = go (cases k)
      where
        cases : (k : ℕ) → (k < length ns) ⊎ (length ns ≤ k)
        cases k = grind arith

        go : (k < length ns) ⊎ (length ns ≤ k) → node_at ns k ≡ node_at (ns ++ x ∷ []) k
        go (inl h) = sym (get_or_append_left ns (x ∷ []) Free k h)
        go (inr h) = past ns k Free h ∙ sym (past (ns ++ x ∷ []) k Free (omega (arith, h, d, length-append ns (x ∷ []))))

-- a rank for one more node
abbrev ranked_over : (ℕ → ℕ) → Node → ℕ
ranked_over rank Free = 0
ranked_over rank (Leaf w) = 0
ranked_over rank (Apply l r) = suc (rank l + rank r)
ranked_over rank (Same j) = suc (rank j)

abbrev over : (ℕ → ℕ) → ℕ → ℕ → ℕ → ℕ
over rank n m k = cond (nat_eq k n) m (rank k)

over-below : (rank : ℕ → ℕ) (n m k : ℕ) → k < n → over rank n m k ≡ rank k
over-below rank n m k h = ap (λ b. cond b m (rank k)) (ne_eqb k n (λ e. omega (arith, e, h)))

over-at : (rank : ℕ → ℕ) (n m : ℕ) → over rank n m n ≡ m
over-at rank n m = ap (λ b. cond b m (rank n)) (eq-eqb n n refl)

over-other : (rank : ℕ → ℕ) (n m k : ℕ) → (k ≡ n → ⊥) → over rank n m k ≡ rank k
over-other rank n m k d = ap (λ b. cond b m (rank k)) (ne_eqb k n d)

lowers-new : (rank : ℕ → ℕ) (n : ℕ) (x : Node) → LeadsBelow n x → Lowers (over rank n (ranked_over rank x)) (ranked_over rank x) x
lowers-new rank n Free b = tt
lowers-new rank n (Leaf w) b = tt
lowers-new rank n (Apply l r) b =
    let m = suc (rank l + rank r) in (omega (arith, over-below rank n m l b.0), omega (arith, over-below rank n m r b.1))
lowers-new rank n (Same j) b = omega (arith, over-below rank n (suc (rank j)) j b)

lowers-old : (rank : ℕ → ℕ) (n m p : ℕ) (x : Node) → LeadsBelow n x → Lowers rank p x → Lowers (over rank n m) p x
lowers-old rank n m p Free b l = tt
lowers-old rank n m p (Leaf w) b l = tt
lowers-old rank n m p (Apply f a) b l = (omega (arith, l.0, over-below rank n m f b.0), omega (arith, l.1, over-below rank n m a b.1))
lowers-old rank n m p (Same j) b l = omega (arith, l, over-below rank n m j b)

acyclic-put : (g : ℕ → Node) (n : ℕ) (x : Node) → IsAcyclic g → IsWithin n g → LeadsBelow n x → IsAcyclic (put g n x)
acyclic-put g n x a within below =
    let m = ranked_over a.rank x in
    let rank = over a.rank n m in
    record {
      rank = rank;
      ranked = at-put (λ k y. Lowers rank (rank k) y) g n x
          (subst (λ p. Lowers rank p x) (sym (over-at a.rank n m)) (lowers-new a.rank n x below))
          (λ k d. subst (λ p. Lowers rank p (g k)) (sym (over-other a.rank n m k d)) (lowers-old a.rank n m (a.rank k) (g k) (within k) (a.ranked k)));
    }

below-more : (n m : ℕ) → n ≤ m → (x : Node) → LeadsBelow n x → LeadsBelow m x
below-more n m h Free b = tt
below-more n m h (Leaf w) b = tt
below-more n m h (Apply l r) b = (omega (arith, b.0, h), omega (arith, b.1, h))
below-more n m h (Same j) b = omega (arith, b, h)

made-descends : (k : ℕ) (x : Node) → IsRoot x → Descends k x
made-descends k Free r = tt
made-descends k (Leaf w) r = tt
made-descends k (Apply f a) r = tt
made-descends k (Same j) r = absurd r

pub graph-push : (ns ns' : List Node) (x : Node) → IsGraph ns → LeadsBelow (length ns) x → IsRoot x → ns' ≡ ns ++ x ∷ [] → IsGraph ns'
graph-push ns ns' x g below root is =
    let e = sym (node_at-push ns x) ∙ ap node_at (sym is) in
    let n = length ns in
    let longer : n ≤ length ns' = omega (arith, ap length is, length-append ns (x ∷ [])) in
    record {
      descending = subst IsDescending e (at-put Descends (node_at ns) n x (made-descends n x root) (λ k d. g.descending k));
      within = subst (IsWithin (length ns')) e (at-put (λ k y. LeadsBelow (length ns') y) (node_at ns) n x (below-more n (length ns') longer x below) (λ k d. below-more n (length ns') longer (node_at ns k) (g.within k)));
      acyclic = subst IsAcyclic e (acyclic-put (node_at ns) n x g.acyclic g.within below);
    }

pub clear-push : (seen seen' : List Bool) → IsClear seen → seen' ≡ seen ++ false ∷ [] → IsClear seen'
clear-push seen seen' c e k = ap (λ m. is_marked m k) e ∙ go seen c k
  where
    go : (seen : List Bool) → IsClear seen → (k : ℕ) → is_marked (seen ++ false ∷ []) k ≡ false
    go [] c zero = refl
    go [] c (suc k) = refl
    go (b ∷ seen) c zero = c zero
    go (b ∷ seen) c (suc k) = go seen (λ j. c (suc j)) k

pub most-general : (g : ℕ → Node) → IsAcyclic g → IsMostGeneral g
most-general g a = record { some = solution g a; one = one-solution g a }

pub clear-none : IsClear []
clear-none k = refl

pub graph-none : IsGraph []
graph-none = record {
  descending = λ k. tt;
  within = λ k. tt;
  acyclic = record { rank = λ k. 0; ranked = λ k. tt };
}

-- one pair
pub settled-one : (ns ns' : List Node) (pairs : List Pair) (left right : ℕ) (b : Bool) → pairs ≡ record { left = left; right = right } ∷ [] → Settled ns pairs ns' b → Unified ns left right ns' b
settled-one ns ns' pairs left right b e s = go b (subst (λ ps. Settled ns ps ns' b) e s)
  where
    p : Pair
    p = record { left = left; right = right }

    single : (v : ℕ → Ty) → v left ≡ v right → Agrees v (p ∷ [])
    single v q zero d h = q
    single v q (suc k) d h = absurd (omega (arith, h))

    go : (b : Bool) → Settled ns (p ∷ []) ns' b → Unified ns left right ns' b
    go true s = λ v. (λ t. let u = (s v).0 t in (u.0, u.1 0 p (omega arith)), λ t. (s v).1 (t.0, single v t.1))
    go false s = λ v t q. s v t (single v q)

-- a list that was written back whole
pub written : {A : Type 0} (xs ys : List A) (n : ℕ) → length xs ≡ n → take n (xs ++ ys) ≡ xs
written {A = A} xs ys n e = ap (λ m. take m (xs ++ ys)) (sym e) ∙ go xs
  where
    go : (xs : List A) → take (length xs) (xs ++ ys) ≡ xs
    go [] = refl
    go (x ∷ xs) = ap (λ zs. x ∷ zs) (go xs)

-- what a node says is kept where the types below it are
says-local : (n : ℕ) (v w : ℕ → Ty) (t : Ty) (x : Node) → LeadsBelow n x → Below n v w → Says v t x → Says w t x
says-local n v w t Free b h s = tt
says-local n v w t (Leaf u) b h s = s
says-local n v w t (Apply l r) b h s = s ∙ ap₂ applied (sym (h l b.0)) (sym (h r b.1))
says-local n v w t (Same j) b h s = s ∙ sym (h j b)

-- v, with another type at n
abbrev with_type : (ℕ → Ty) → ℕ → Ty → ℕ → Ty
with_type v n t k = cond (nat_eq k n) t (v k)

with-at : (v : ℕ → Ty) (n : ℕ) (t : Ty) → with_type v n t n ≡ t
with-at v n t = ap (λ b. cond b t (v n)) (eq-eqb n n refl)

with-other : (v : ℕ → Ty) (n : ℕ) (t : Ty) (k : ℕ) → (k ≡ n → ⊥) → with_type v n t k ≡ v k
with-other v n t k d = ap (λ b. cond b t (v k)) (ne_eqb k n d)

pub adds : (ns ns' : List Node) (x : Node) (k : ℕ) → IsGraph ns → LeadsBelow (length ns) x → k ≡ length ns → ns' ≡ ns ++ x ∷ [] → Adds ns x k ns'
adds ns ns' x k g below place is = record {
  place = place;
  longer = ap length is ∙ length-append ns (x ∷ []);
  back = λ v s. (back v (subst (λ f. Solves f v) e s), says v (subst (λ f. Solves f v) e s));
  on = λ v t s here. (with_type v n t, subst (λ f. Solves f (with_type v n t)) (sym e) (on v t s here), keeps v t, ap (with_type v n t) place ∙ with-at v n t);
}
  where
    n : ℕ
    n = length ns

    e : node_at ns' ≡ put (node_at ns) (length ns) x
    e = ap node_at is ∙ node_at-push ns x

    back : (v : ℕ → Ty) → Solves (put (node_at ns) (length ns) x) v → Solves (node_at ns) v
    back v s = solves-back (node_at ns) v (length ns) x s (subst (Says v (v (length ns))) (sym (past ns (length ns) Free (omega arith))) tt)

    says : (v : ℕ → Ty) → Solves (put (node_at ns) (length ns) x) v → Says v (v k) x
    says v s = subst (λ j. Says v (v j) x) (sym place) (solves-at (node_at ns) v (length ns) x s)

    keeps : (v : ℕ → Ty) (t : Ty) → Below (length ns) v (with_type v (length ns) t)
    keeps v t j h = with-other v (length ns) t j (λ q. omega (arith, q, h))

    on : (v : ℕ → Ty) (t : Ty) → Solves (node_at ns) v → Says v t x → Solves (put (node_at ns) (length ns) x) (with_type v (length ns) t)
    on v t s here = at-put (λ j y. Says (with_type v (length ns) t) (with_type v (length ns) t j) y) (node_at ns) (length ns) x
        (subst (λ u. Says (with_type v (length ns) t) u x) (sym (with-at v (length ns) t)) (says-local (length ns) v (with_type v (length ns) t) t x below (keeps v t) here))
        (λ j d. subst (λ u. Says (with_type v (length ns) t) u (node_at ns j)) (sym (with-other v (length ns) t j d)) (says-local (length ns) v (with_type v (length ns) t) (v j) (node_at ns j) (g.within j) (keeps v t) (s j)))
