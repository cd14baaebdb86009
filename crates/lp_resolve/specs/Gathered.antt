-- The predicates that declarations and clauses make, in the order of their first places.
use Rattle.std.specs.Prelude.{ℕ, true, false, List, [], ◌∷◌, length, replicate, fold, Option, Some, None, if◌then◌else◌}
use Rattle.std.specs.Option.{option_map_or}
use Rattle.lp_resolve.specs.declared.program.PredLine.{PredLine}
use Rattle.lp_resolve.specs.declared.program.Pred.{Pred}
use Rattle.lp_resolve.specs.declared.program.ClauseTree.{ClauseTree}
use Rattle.lp_resolve.specs.Heads.{constant_of, args_of}
use Rattle.lp_resolve.specs.Places.{is_before}
use Rattle.lp_resolve.specs.Preds.{pred_at, with_pred}

-- a declaration or a clause
pub data Sight : Type 0 where
  declaration : PredLine → Sight
  clause : ClauseTree → Sight

-- a declaration put into this list, whose place the clauses before it come first; `rest` is what follows it from a clause on
abbrev pub with_line : PredLine → (rest : List ClauseTree → List Sight) → List ClauseTree → List Sight
with_line d rest [] = declaration d ∷ rest []
with_line d rest (c ∷ clauses) =
    if is_before c.places.head d.place then clause c ∷ with_line d rest clauses else declaration d ∷ rest (c ∷ clauses)

-- clauses alone
abbrev pub clauses_alone : List ClauseTree → List Sight
clauses_alone [] = []
clauses_alone (c ∷ clauses) = clause c ∷ clauses_alone clauses

-- declarations and clauses by their places
abbrev pub merged : List PredLine → List ClauseTree → List Sight
merged [] clauses = clauses_alone clauses
merged (d ∷ lines) clauses = with_line d (merged lines) clauses

-- a predicate as it is declared
abbrev pub declared_as : PredLine → Pred
declared_as d = record { declared = true; inputs = d.inputs }

-- a predicate as the first of its clauses makes it: all arguments are outputs
abbrev pub undeclared_as : ClauseTree → Pred
undeclared_as c = record { declared = false; inputs = replicate (length (args_of c.head)) false }

-- where a declaration counts: there is no earlier one
abbrev pub with_declaration : Option Pred → ℕ → Pred → List (ℕ × Pred) → List (ℕ × Pred)
with_declaration None c p preds = with_pred c p preds
with_declaration (Some q) c p preds = if q.declared then preds else with_pred c p preds

-- where a clause counts: its symbol is no predicate before it
abbrev pub with_clause : Option Pred → ℕ → Pred → List (ℕ × Pred) → List (ℕ × Pred)
with_clause None c p preds = with_pred c p preds
with_clause (Some q) c p preds = preds

-- the predicates after one more declaration or clause; a clause whose head has no constant makes none
abbrev pub seen : List (ℕ × Pred) → Sight → List (ℕ × Pred)
seen preds (declaration d) = with_declaration (pred_at d.name.0 preds) d.name.0 (declared_as d) preds
seen preds (clause c) = option_map_or (λ s. with_clause (pred_at s preds) s (undeclared_as c) preds) (constant_of c.head) preds

-- the predicates of these declarations and clauses
abbrev pub gathered : List PredLine → List ClauseTree → List (ℕ × Pred)
gathered lines clauses = fold seen [] (merged lines clauses)
