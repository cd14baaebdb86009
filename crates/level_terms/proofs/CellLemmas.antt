-- Cells and their values.
use Rattle.std.proofs.Common.{◌≡◌, ℕ, zero, suc, ◌<◌, List, [], ◌∷◌, ◌++◌, length, map, cond, nat_eq, is_some, Option, Some, None, option_map, refl, ap, ◌∙◌, arith, set, get_or, ne_eqb}
use Rattle.std.proofs.lemmas.Bool.Decides.{nat_tests}
use Rattle.level_terms.specs.declared.heap.Cell.{Cell}
use Rattle.level_terms.specs.declared.node.TermId.{TermId}
use Rattle.level_terms.specs.Graph.{Assigned, value_in}
use Rattle.level_terms.specs.HeapView.{cell_value, free_count}

-- a variable without a value at the end changes no value
pub cell_value-push : (cells : List Cell) (c : Cell) (v : ℕ) → c.value ≡ None → cell_value (cells ++ c ∷ []) v ≡ cell_value cells v
cell_value-push [] c zero e = rw e refl
cell_value-push [] c (suc v) e = refl
cell_value-push (d ∷ cells) c zero e = refl
cell_value-push (d ∷ cells) c (suc v) e = cell_value-push cells c v e

-- a write at one variable
pub cell_value-set : (cells : List Cell) (v : ℕ) (c : Cell) (t : TermId) (w : ℕ) → v < length cells → c.value ≡ Some t → cell_value (set cells v c) w ≡ cond (nat_eq v w) (Some t.index) (cell_value cells w)
cell_value-set [] v c t w h e = absurd (omega arith)
cell_value-set (d ∷ cells) zero c t zero h e = rw e refl
cell_value-set (d ∷ cells) zero c t (suc w) h e = rw (ne_eqb 0 (suc w) (omega arith)) refl
cell_value-set (d ∷ cells) (suc v) c t zero h e = rw (ne_eqb (suc v) 0 (omega arith)) refl
cell_value-set (d ∷ cells) (suc v) c t (suc w) h e = cell_value-set cells v c t w (omega arith) e ∙ ap (λ b. cond b (Some t.index) (cell_value cells w)) (nat_eq-suc v w)
  where
    nat_eq-suc : (a b : ℕ) → nat_eq a b ≡ nat_eq (suc a) (suc b)
    nat_eq-suc a b = grind (arith, nat_tests)

-- the depths stay
pub depths-set : (cells : List Cell) (v : ℕ) (c d : Cell) → v < length cells → c.depth ≡ (get_or cells v d).depth → map (λ x. x.depth) (set cells v c) ≡ map (λ x. x.depth) cells
depths-set [] v c d h e = refl
depths-set (x ∷ cells) zero c d h e = ap (λ k. k ∷ map (λ x. x.depth) cells) e
depths-set (x ∷ cells) (suc v) c d h e = ap (λ ks. x.depth ∷ ks) (depths-set cells v c d (omega arith) e)

-- a variable without a value is counted
pub free_at : (cells : List Cell) (v : ℕ) (d : Cell) → v < length cells → cell_value cells v ≡ None → free_count (get_or cells v d) ≡ 1
free_at [] v d h e = absurd (omega arith)
free_at (x ∷ cells) zero d h e = go x.value e
  where
    go : (o : Option TermId) → option_map (λ t. t.index) o ≡ None → cond {A = ℕ} (is_some o) 0 1 ≡ 1
    go None e = refl
    go (Some t) e = absurd (let k : Some t.index ≡ None = e in cc)
free_at (x ∷ cells) (suc v) d h e = free_at cells v d (omega arith) e

-- pairing one more assignment
pub value_in-newest : (a : Assigned) (older : List Assigned) (v : ℕ) → value_in (a ∷ older) v ≡ cond (nat_eq a.variable v) (Some a.value) (value_in older v)
value_in-newest a older v = refl

-- the value in a variable's cell
pub cell_value-get : (cells : List Cell) (v : ℕ) (d : Cell) → v < length cells → cell_value cells v ≡ option_map (λ t. t.index) (get_or cells v d).value
cell_value-get [] v d h = absurd (omega (arith, h))
cell_value-get (c ∷ cells) zero d h = refl
cell_value-get (c ∷ cells) (suc v) d h = cell_value-get cells v d (omega (arith, h))
