-- The heads of a rule against constraints.
use Rattle.std.specs.Prelude.{ℕ, ◌+◌, Bool, true, false, ◌&&◌, nat_eq, List, [], ◌∷◌, ◌++◌, map, length, filter, Option, Some, None}
use Rattle.std.specs.List.{list_any}
use Rattle.ref_terms.specs.terms.Term.{Term}
use Rattle.ref_terms.specs.unification.Spine.{args_of, head_of}
use Rattle.ref_terms.specs.unification.Problem.{Equation}
use Rattle.ref_terms.specs.unification.Rules.{equations_of}
use Rattle.ref_terms.specs.search.Program.{Rule, RuleHead, constant_of, is_constant}
use Rattle.ref_terms.specs.search.Lists.{list_term}
use Rattle.ref_terms.specs.search.Instance.{variable_under, instance}
use Rattle.ref_terms.specs.search.Branch.{Constraint}
use Rattle.ref_terms.specs.search.Joint.{over_joint}

-- the heads of a rule, kept ones first
abbrev pub heads_of : Rule → List RuleHead
heads_of r = r.kept ++ r.removed

-- both have a constant at the head, and it is the same
abbrev pub same_constant : Option ℕ → Option ℕ → Bool
same_constant (Some c) d = is_constant c d
same_constant None d = false

-- a constraint fits a head of the same constant and number of arguments
abbrev pub fits_head : RuleHead → Constraint → Bool
fits_head h c = same_constant (constant_of (head_of h.goal)) (constant_of (head_of c.term)) && nat_eq (length (args_of h.goal)) (length (args_of c.term))

-- whether each constraint fits its head
abbrev pub fit_heads : List RuleHead → List Constraint → Bool
fit_heads (h ∷ hs) (c ∷ cs) = fits_head h c && fit_heads hs cs
fit_heads _ _ = true

-- the assumed clauses of the block's names, as a list over the joint names
abbrev pub context_of : Rule → List ℕ → Constraint → Term
context_of r map_of c = list_term (map (λ h. over_joint map_of h.assumed) (filter (λ h. list_any (nat_eq h.pred) r.names) c.assumptions))

-- the equation of a head's context, where it has one
abbrev pub context_equations : Rule → (names next : ℕ) → List ℕ → Constraint → Option ℕ → List Equation
context_equations r names next map_of c None = []
context_equations r names next map_of c (Some v) = record { names = names; left = variable_under names (next + v); right = context_of r map_of c } ∷ []

-- the equations of a head: its context first, then its arguments
abbrev pub head_equations : Rule → (names next : ℕ) → RuleHead → List ℕ → Constraint → List Equation
head_equations r names next h map_of c = context_equations r names next map_of c h.context
    ++ equations_of names (args_of (instance names next h.goal)) (map (over_joint map_of) (args_of c.term))

-- the equations of all heads, head by head
abbrev pub match_equations : Rule → (names next : ℕ) → List RuleHead → List (List ℕ) → List Constraint → List Equation
match_equations r names next (h ∷ hs) (m ∷ ms) (c ∷ cs) = head_equations r names next h m c ++ match_equations r names next hs ms cs
match_equations r names next _ _ _ = []
