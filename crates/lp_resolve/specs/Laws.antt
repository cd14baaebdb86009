-- Laws of the static rules and of predicates.
use Rattle.std.specs.Prelude.{◌≡◌, ◌↔◌, ℕ, Bool, false, nat_eq, if◌then◌else◌, List, [], ◌∷◌, Option, Some, None, All, Contains}
use Rattle.std.specs.Option.{option_map_or}
use Rattle.lp_resolve.specs.declared.program.Program.{Program}
use Rattle.lp_resolve.specs.declared.program.Pred.{Pred}
use Rattle.lp_resolve.specs.declared.program.PredLine.{PredLine}
use Rattle.lp_resolve.specs.declared.program.ClauseTree.{ClauseTree}
use Rattle.lp_resolve.specs.Heads.{constant_of}
use Rattle.lp_resolve.specs.Preds.{pred_at}
use Rattle.lp_resolve.specs.Gathered.{gathered, declared_as, undeclared_as}
use Rattle.lp_resolve.specs.StaticRules.{Breach, breaches, is_before, first_breach}

-- there is no first broken rule exactly where none is broken
abbrev pub NoneIsBroken : Type 0
NoneIsBroken = (p : Program) → (first_breach p ≡ None) ↔ (breaches p ≡ [])

-- the first broken rule is broken
abbrev pub FirstIsBroken : Type 0
FirstIsBroken = (p : Program) (b : Breach) → first_breach p ≡ Some b → Contains (breaches p) b

-- no broken rule is before it
abbrev pub NoneIsBefore : Type 0
NoneIsBefore = (p : Program) (b : Breach) → first_breach p ≡ Some b → All (λ c. is_before c b ≡ false) (breaches p)

-- the predicate that the first declaration of a symbol makes
abbrev pub declared_first : ℕ → List PredLine → Option Pred
declared_first s [] = None
declared_first s (d ∷ lines) = if nat_eq s d.name.0 then Some (declared_as d) else declared_first s lines

-- whether a clause has the symbol at its head
abbrev pub is_headed : ℕ → ClauseTree → Bool
is_headed s c = option_map_or (nat_eq s) (constant_of c.head) false

-- the predicate that the first clause with a symbol at its head makes
abbrev pub headed_first : ℕ → List ClauseTree → Option Pred
headed_first s [] = None
headed_first s (c ∷ clauses) = if is_headed s c then Some (undeclared_as c) else headed_first s clauses

-- the first of two predicates that is there
abbrev pub or_else : Option Pred → Option Pred → Option Pred
or_else None q = q
or_else (Some p) q = Some p

-- a symbol's predicate is made by its first declaration, or else by the first clause with it at its head
abbrev pub FirstDeclarationOrClauseDecides : Type 0
FirstDeclarationOrClauseDecides = (lines : List PredLine) (clauses : List ClauseTree) (s : ℕ)
    → pred_at s (gathered lines clauses) ≡ or_else (declared_first s lines) (headed_first s clauses)
