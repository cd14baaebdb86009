-- The nodes in the order of their ages.
use Rattle.std.proofs.Common.{◌≡◌, ℕ, zero, suc, List, [], ◌∷◌, ◌++◌, length, reverse, cond, nat_eq, Some, refl, sym, ap, ◌∙◌, arith, slice_get, ne_eqb}
use Rattle.level_terms.specs.declared.node.Node.{Node}
use Rattle.std.proofs.lemmas.List.{reverse-reverse, reverse-append, length-reverse}
use Rattle.std.proofs.lemmas.Bool.Decides.{nat_tests}
use Rattle.level_terms.specs.Graph.{node_at}

nat_eq-suc : (a b : ℕ) → nat_eq a b ≡ nat_eq (suc a) (suc b)
nat_eq-suc a b = grind (arith, nat_tests)

pub slice_get-snoc : {A : Type 0} (xs : List A) (n : A) (t : ℕ) → slice_get (xs ++ n ∷ []) t ≡ cond (nat_eq (length xs) t) (Some n) (slice_get xs t)
slice_get-snoc [] n zero = refl
slice_get-snoc [] n (suc t) = rw (ne_eqb 0 (suc t) (omega arith)) refl
slice_get-snoc (x ∷ xs) n zero = rw (ne_eqb (suc (length xs)) 0 (omega arith)) refl
slice_get-snoc (x ∷ xs) n (suc t) = slice_get-snoc xs n t ∙ ap (λ b. cond b (Some n) (slice_get xs t)) (nat_eq-suc (length xs) t)

node_at-newest : (ns : List Node) (t : ℕ) → node_at ns t ≡ slice_get (reverse ns) t
node_at-newest [] t = refl
node_at-newest (n ∷ ns) t =
    ap (cond (nat_eq (length ns) t) (Some n)) (node_at-newest ns t)
    ∙ ap (λ k. cond (nat_eq k t) (Some n) (slice_get (reverse ns) t)) (sym (length-reverse ns))
    ∙ sym (slice_get-snoc (reverse ns) n t)
    ∙ ap (λ zs. slice_get zs t) (sym (reverse-append (n ∷ []) ns))

pub node_at-reverse : (xs : List Node) (t : ℕ) → node_at (reverse xs) t ≡ slice_get xs t
node_at-reverse xs t = node_at-newest (reverse xs) t ∙ ap (λ zs. slice_get zs t) (reverse-reverse xs)
