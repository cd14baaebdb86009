-- Cells in the order of their ages.
use Rattle.std.proofs.Common.{◌≡◌, ℕ, zero, suc, ◌<◌, ◌++◌, List, [], ◌∷◌, length, reverse, take, drop, get_or, refl, sym, ap, ap₂, ◌∙◌, arith, subst, append_assoc}
use Rattle.std.proofs.lemmas.List.{reverse-append, length-reverse}
use Rattle.ref_terms.specs.terms.Term as term
use Rattle.ref_terms.specs.terms.Term.{Term}
use Rattle.beta_fragment.specs.declared.cells.Cell.{Cell}
use Rattle.beta_fragment.specs.declared.cells.Cell.TheVariants.{Rigid, Bound, Var, Lam, App}
use Rattle.beta_fragment.specs.inside.Cells.{term_at, cell_term, terms_of, HasParts, AllHaveParts, Gains, IsKept}
use Rattle.beta_fragment.proofs.CellLemmas.{at-newest, gains-refl, gains-one, gains-trans, gains-at, kept-newest}

-- as many terms as cells
pub terms-length : (cs : List Cell) → length (terms_of cs) ≡ length cs
terms-length [] = refl
terms-length (c ∷ cs) = ap suc (terms-length cs)

-- more cells, more terms
pub terms-gain : (more cs : List Cell) → Gains (terms_of cs) (terms_of (more ++ cs))
terms-gain [] cs = gains-refl (terms_of cs)
terms-gain (c ∷ more) cs =
    gains-trans (terms_of cs) (terms_of (more ++ cs)) (terms_of ((c ∷ more) ++ cs)) (terms-gain more cs) (gains-one (cell_term (terms_of (more ++ cs)) c) (terms_of (more ++ cs)))

-- a cell's term stays as others are added
pub cell-gains : (old new : List Term) (c : Cell) → Gains old new → HasParts (length old) c → cell_term new c ≡ cell_term old c
cell-gains old new (Rigid h) g p = refl
cell-gains old new (Bound i) g p = refl
cell-gains old new (Var v) g p = refl
cell-gains old new (Lam b) g p = ap term.Lam (gains-at old new g b p)
cell-gains old new (App f a) g p = ap₂ term.App (gains-at old new g f p.0) (gains-at old new g a p.1)

parts-inside : (more older : List Cell) (c : Cell) → AllHaveParts (more ++ c ∷ older) → HasParts (length older) c
parts-inside [] older c h = h.0
parts-inside (m ∷ more) older c h = parts-inside more older c h.1

term-inside : (more older : List Cell) (c : Cell) → AllHaveParts (more ++ c ∷ older) → term_at (terms_of (more ++ c ∷ older)) (length older) ≡ cell_term (terms_of (more ++ c ∷ older)) c
term-inside more older c h =
    let parts = subst (λ n. HasParts n c) (sym (terms-length older)) (parts-inside more older c h) in
    let here = gains-one (cell_term (terms_of older) c) (terms_of older) in
    let rest = terms-gain more (c ∷ older) in
    let all : Gains (terms_of older) (terms_of (more ++ c ∷ older)) = gains-trans (terms_of older) (terms_of (c ∷ older)) (terms_of (more ++ c ∷ older)) here rest in
    ap (term_at (terms_of (more ++ c ∷ older))) (sym (terms-length older))
    ∙ gains-at (terms_of (c ∷ older)) (terms_of (more ++ c ∷ older)) rest (length (terms_of older)) (omega arith)
    ∙ at-newest (cell_term (terms_of older) c) (terms_of older)
    ∙ sym (cell-gains (terms_of older) (terms_of (more ++ c ∷ older)) c all parts)

split-at : (xs : List Cell) (i : ℕ) (d : Cell) → i < length xs → xs ≡ take i xs ++ get_or xs i d ∷ drop (suc i) xs
split-at [] i d h = absurd (omega arith)
split-at (x ∷ xs) zero d h = refl
split-at (x ∷ xs) (suc i) d h = ap (λ (ys : List Cell). x ∷ ys) (split-at xs i d (omega (arith, h)))

taken-length : (xs : List Cell) (i : ℕ) → i < length xs → length (take i xs) ≡ i
taken-length [] i h = absurd (omega (arith, h))
taken-length (x ∷ xs) zero h = refl
taken-length (x ∷ xs) (suc i) h = ap suc (taken-length xs i (omega (arith, h)))

split-newest : (xs : List Cell) (i : ℕ) (d : Cell) → i < length xs → reverse xs ≡ reverse (drop (suc i) xs) ++ get_or xs i d ∷ reverse (take i xs)
split-newest xs i d h =
    ap reverse (split-at xs i d h)
    ∙ reverse-append (take i xs) (get_or xs i d ∷ drop (suc i) xs)
    ∙ ap (λ (ys : List Cell). ys ++ reverse (take i xs)) (reverse-append (get_or xs i d ∷ []) (drop (suc i) xs))
    ∙ append_assoc (reverse (drop (suc i) xs)) (get_or xs i d ∷ []) (reverse (take i xs))

older-count : (xs : List Cell) (i : ℕ) → i < length xs → length (reverse (take i xs)) ≡ i
older-count xs i h = length-reverse (take i xs) ∙ taken-length xs i h

-- the cell with a number
pub parts-at : (xs : List Cell) (i : ℕ) (d : Cell) → i < length xs → AllHaveParts (reverse xs) → HasParts i (get_or xs i d)
parts-at xs i d h all =
    subst (λ n. HasParts n (get_or xs i d)) (older-count xs i h) (parts-inside (reverse (drop (suc i) xs)) (reverse (take i xs)) (get_or xs i d) (subst AllHaveParts (split-newest xs i d h) all))

pub cell-at : (xs : List Cell) (i : ℕ) (d : Cell) → i < length xs → AllHaveParts (reverse xs) → term_at (terms_of (reverse xs)) i ≡ cell_term (terms_of (reverse xs)) (get_or xs i d)
cell-at xs i d h all =
    let inside = term-inside (reverse (drop (suc i) xs)) (reverse (take i xs)) (get_or xs i d) (subst AllHaveParts (split-newest xs i d h) all) in
    let here = subst (λ cs. term_at (terms_of cs) (length (reverse (take i xs))) ≡ cell_term (terms_of cs) (get_or xs i d)) (sym (split-newest xs i d h)) inside in
    subst (λ n. term_at (terms_of (reverse xs)) n ≡ cell_term (terms_of (reverse xs)) (get_or xs i d)) (older-count xs i h) here

-- a term that was added
pub added-kept : (old new : List Term) (x : Term) (i : ℕ) → i ≡ length old → new ≡ x ∷ old → IsKept new i x
added-kept old new x i n e = subst (λ ts. IsKept ts i x) (sym e) (subst (λ j. IsKept (x ∷ old) j x) (sym n) (kept-newest x old))

pub added-gains : (old new : List Term) (x : Term) → new ≡ x ∷ old → Gains old new
added-gains old new x e = subst (Gains old) (sym e) (gains-one x old)

-- nothing was added
pub same-gains : (old new : List Cell) → new ≡ old → Gains (terms_of old) (terms_of new)
same-gains old new e = subst (λ cs. Gains (terms_of old) (terms_of cs)) (sym e) (gains-refl (terms_of old))
