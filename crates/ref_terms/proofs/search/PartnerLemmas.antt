-- Sequents that can be aligned have one variable at both arguments of each pair.
use Rattle.std.proofs.Common.{◌≡◌, ℕ, suc, ◌+◌, ◌≤◌, ◌<◌, length, Bool, true, false, cond, nat_eq, List, [], ◌∷◌, ◌++◌, filter, replicate, refl, sym, ap, ◌∙◌, Option, Some, None, option_map, option_and_then, slice_get, slice_index, subst, arith}
use Rattle.std.proofs.lemmas.Bool.{le-ltb, eqb-true, eqb-false}
use Rattle.ref_terms.specs.terms.Term.{Term, Lam, At, App, Head, Con, Int, Str, Name, Bound, Var}
use Rattle.ref_terms.specs.unification.Shape.{Shape, Rigid, Flex, headed, shape}
use Rattle.ref_terms.specs.unification.Spine.{args_of, head_of}
use Rattle.ref_terms.specs.unification.Pattern.{SpineName, pattern_of, names_of}
use Rattle.ref_terms.specs.declared.pair.Pair.{Pair}
use Rattle.ref_terms.specs.search.Branch.{Constraint}
use Rattle.ref_terms.specs.search.Joint.{Joint, spine_names, paired, paired_spines, argument, spine_at, gets_joint, map_at, identified, aligned, all_aligned, with_head, joined, joint}
use Rattle.ref_terms.specs.search.Used.{Every}
use Rattle.ref_terms.specs.search.Waking.{variable_of, heading}
use Rattle.ref_terms.specs.search.Partners.{heading_at, Shares}

none-some : {A B : Type 0} (a : A) → None ≡ Some a → B
none-some a e = absurd (let k : None ≡ Some a = e in cc)

-- a pattern spine is that of the variable that heads the term
spine-variable : (v : ℕ) (o : Option (List SpineName)) (s : ℕ × List ℕ) → option_map (λ ms. (v, names_of ms)) o ≡ Some s → v ≡ s.0
spine-variable v (Some ms) s e = ap (λ (x : Option (ℕ × List ℕ)). first x) e
  where
    first : Option (ℕ × List ℕ) → ℕ
    first (Some y) = y.0
    first None = v
spine-variable v None s e = none-some s e

headed-spine : (o : Option Head) (ts : List Term) (s : ℕ × List ℕ) → spine_names (headed 0 o ts) ≡ Some s → variable_of o ≡ Some s.0
headed-spine (Some (Var v)) ts s e = ap (λ (x : ℕ). Some x) (spine-variable v (pattern_of ts) s (sym (ap (λ (b : Bool). spine_names (cond b (Rigid (Var v) ts) (Flex v ts))) (le-ltb v 0 (omega arith))) ∙ e))
headed-spine (Some (Con c)) ts s e = none-some s e
headed-spine (Some (Int c)) ts s e = none-some s e
headed-spine (Some (Str c)) ts s e = none-some s e
headed-spine (Some (Name c)) ts s e = none-some s e
headed-spine (Some (Bound c)) ts s e = none-some s e
headed-spine None ts s e = none-some s e

term-spine : (t : Term) (s : ℕ × List ℕ) → spine_names (shape 0 t) ≡ Some s → heading t ≡ Some s.0
term-spine (Lam b) s e = none-some s e
term-spine (At h) s e = headed-spine (Some h) [] s e
term-spine (App f a) s e = headed-spine (head_of f) (args_of f ++ a ∷ []) s e

spine-heading : (cs : List Constraint) (h i : ℕ) (s : ℕ × List ℕ) → spine_at i (slice_get cs h) ≡ Some s → heading_at cs h i ≡ Some s.0
spine-heading cs h i s e = go (option_and_then (λ c. argument c i) (slice_get cs h)) e
  where
    go : (o : Option Term) → option_and_then (λ t. spine_names (shape 0 t)) o ≡ Some s → option_and_then heading o ≡ Some s.0
    go (Some t) k = term-spine t s k
    go None k = none-some s k

-- both spines are of one variable
pair-shares : (cs : List Constraint) (p : Pair) (a b : Option (ℕ × List ℕ)) → spine_at p.left_arg (slice_get cs p.left_head) ≡ a → spine_at p.right_arg (slice_get cs p.right_head) ≡ b
    → (ps : List (ℕ × ℕ)) → paired_spines a b ≡ Some ps → Shares cs p
pair-shares cs p (Some s) (Some t) e f ps k = go (nat_eq s.0 t.0) refl k
  where
    go : (x : Bool) → nat_eq s.0 t.0 ≡ x → cond x (paired s.1 t.1) None ≡ Some ps → Shares cs p
    go true z w = (s.0, spine-heading cs p.left_head p.left_arg s e, spine-heading cs p.right_head p.right_arg t f ∙ ap (λ (x : ℕ). Some x) (sym (eqb-true s.0 t.0 z)))
    go false z w = none-some ps w
pair-shares cs p (Some s) None e f ps k = none-some ps k
pair-shares cs p None (Some t) e f ps k = none-some ps k
pair-shares cs p None None e f ps k = none-some ps k

-- what failed at one pair fails at all
identified-none : (left : List ℕ) (ps : List (ℕ × ℕ)) → identified left ps None ≡ None
identified-none left [] = refl
identified-none left (p ∷ ps) = identified-none left ps

and-then-none : {A B : Type 0} (f : A → Option B) → ((a : A) → f a ≡ None) → (o : Option A) → option_and_then f o ≡ None
and-then-none f h None = refl
and-then-none f h (Some a) = h a

aligned-none : (cs : List Constraint) (maps : List (List ℕ)) (p : Pair) → aligned cs maps p None ≡ None
aligned-none cs maps p = and-then-none (λ ps. identified (map_at maps p.left_head) ps None) (identified-none (map_at maps p.left_head)) (paired_spines (spine_at p.left_arg (slice_get cs p.left_head)) (spine_at p.right_arg (slice_get cs p.right_head)))

all-none : (cs : List Constraint) (maps : List (List ℕ)) (ps : List Pair) → all_aligned cs maps ps None ≡ None
all-none cs maps [] = refl
all-none cs maps (p ∷ ps) = ap (all_aligned cs maps ps) (aligned-none cs maps p) ∙ all-none cs maps ps

all-shares : (cs : List Constraint) (maps : List (List ℕ)) (ps : List Pair) (o : Option (List (Option ℕ))) (ms : List (Option ℕ)) → all_aligned cs maps ps o ≡ Some ms → Every (Shares cs) ps
all-shares cs maps [] o ms e = tt
all-shares cs maps (p ∷ ps) o ms e = (go (paired_spines (spine_at p.left_arg (slice_get cs p.left_head)) (spine_at p.right_arg (slice_get cs p.right_head))) refl, all-shares cs maps ps (aligned cs maps p o) ms e)
  where
    go : (x : Option (List (ℕ × ℕ))) → paired_spines (spine_at p.left_arg (slice_get cs p.left_head)) (spine_at p.right_arg (slice_get cs p.right_head)) ≡ x → Shares cs p
    go (Some qs) k = pair-shares cs p (spine_at p.left_arg (slice_get cs p.left_head)) (spine_at p.right_arg (slice_get cs p.right_head)) refl refl qs k
    go None k = none-some ms (sym (ap (λ (x : Option (List (ℕ × ℕ))). all_aligned cs maps ps (option_and_then (λ qs. identified (map_at maps p.left_head) qs o) x)) k ∙ all-none cs maps ps) ∙ e)

-- head by head
of-filtered : {A : Type 0} (f : A → Bool) (P : A → Type 0) (xs : List A) → Every P (filter f xs) → Every (λ x. f x ≡ true → P x) xs
of-filtered f P [] w = tt
of-filtered f P (x ∷ xs) w = go (λ u. of-filtered f P xs u) (f x) refl w
  where
    go : (Every P (filter f xs) → Every (λ y. f y ≡ true → P y) xs) → (b : Bool) → f x ≡ b → Every P (cond b (x ∷ filter f xs) (filter f xs)) → Every (λ y. f y ≡ true → P y) (x ∷ xs)
    go rest true e u = ((λ k. u.0), rest u.1)
    go rest false e u = ((λ k. absurd (let z : true ≡ false = sym k ∙ e in cc)), rest u)

joined-shares : (all : List Constraint) (pairs : List Pair) (i : ℕ) (cs : List Constraint) (j r : Joint) → joined all pairs i cs j ≡ Some r → (k : ℕ) → i ≤ k → k < i + length cs → Every (λ p. nat_eq p.right_head k ≡ true → Shares all p) pairs
joined-shares all pairs i [] j r e k low high = absurd (omega arith)
joined-shares all pairs i (c ∷ cs) j r e k low high = go (λ ms w l. joined-shares all pairs (suc i) cs (with_head j ms) r w k l (omega arith)) (all_aligned all j.maps (filter (λ p. nat_eq p.right_head i) pairs) (Some (replicate c.names None))) refl e
  where
    go : ((ms : List (Option ℕ)) → joined all pairs (suc i) cs (with_head j ms) ≡ Some r → suc i ≤ k → Every (λ p. nat_eq p.right_head k ≡ true → Shares all p) pairs)
        → (o : Option (List (Option ℕ))) → all_aligned all j.maps (filter (λ p. nat_eq p.right_head i) pairs) (Some (replicate c.names None)) ≡ o
        → option_and_then (λ ms. joined all pairs (suc i) cs (with_head j ms)) o ≡ Some r → Every (λ p. nat_eq p.right_head k ≡ true → Shares all p) pairs
    go rest None z w = none-some r w
    go rest (Some ms) z w = at (nat_eq i k) refl
      where
        at : (b : Bool) → nat_eq i k ≡ b → Every (λ p. nat_eq p.right_head k ≡ true → Shares all p) pairs
        at true q = subst (λ (x : ℕ). Every (λ p. nat_eq p.right_head x ≡ true → Shares all p) pairs) (eqb-true i k q)
            (of-filtered (λ p. nat_eq p.right_head i) (Shares all) pairs (all-shares all j.maps (filter (λ p. nat_eq p.right_head i) pairs) (Some (replicate c.names None)) ms z))
        at false q = let apart = eqb-false i k q in rest ms w (omega arith)

pub pairs-share : (pairs : List Pair) (c : Constraint) (cs : List Constraint) (r : Joint) → joint pairs (c ∷ cs) ≡ Some r → (k : ℕ) → 1 ≤ k → k < 1 + length cs → Every (λ p. nat_eq p.right_head k ≡ true → Shares (c ∷ cs) p) pairs
pairs-share pairs c cs r e k low high = joined-shares (c ∷ cs) pairs 1 cs _ r e k low high
