-- Lists of predicates by their symbols' numbers.
use Rattle.std.specs.Prelude.{ℕ, nat_eq, List, Option}
use Rattle.std.specs.Map.{lookup}
use Rattle.indexmap.specs.IndexMap.{insert_entry}
use Rattle.lp_resolve.specs.declared.program.Pred.{Pred}

-- what a symbol is as a predicate
abbrev pub pred_at : ℕ → List (ℕ × Pred) → Option Pred
pred_at c preds = lookup (nat_eq c) preds

-- the list where the symbol is this predicate; a new one goes last
abbrev pub with_pred : ℕ → Pred → List (ℕ × Pred) → List (ℕ × Pred)
with_pred c p preds = insert_entry nat_eq preds c p
