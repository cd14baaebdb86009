-- Goals that fit the heads of a rule.
use Rattle.std.specs.Prelude.{◌≡◌, ℕ, Bool, true, false, ◌&&◌, nat_eq, List, [], ◌∷◌, length, Option, Some, None}
use Rattle.level_terms.specs.declared.node.TermId.{TermId}
use Rattle.level_terms.specs.Graph.{Graph}
use Rattle.beta_fragment.specs.HeadForm.{all_read, AllValidAt}
use Rattle.ref_terms.specs.terms.Term.{Term}
use Rattle.ref_terms.specs.unification.Spine.{args_of, head_of}
use Rattle.ref_terms.specs.search.Program.{constant_of}
use Rattle.ref_terms.specs.search.Branch.{Constraint}
use Rattle.ref_terms.specs.search.RuleMatch.{same_constant}
use Rattle.sequent_rules.specs.declared.rules.HeadShape.{HeadShape}

-- the term is an atom of the head's constant with as many arguments
abbrev pub fits_atom : HeadShape → Term → Bool
fits_atom s t = same_constant (Some s.pred.0) (constant_of (head_of t)) && nat_eq s.arity (length (args_of t))

-- these nodes read as the term's arguments
pub record HasArguments (g : Graph) (depth : ℕ) (t : Term) (ts : List TermId) : Type 0 where
  pub args : all_read g ts ≡ args_of t
  pub valid : AllValidAt g ts depth

-- the term's arguments, where it fits the head
abbrev pub IsFit : Graph → (depth : ℕ) → HeadShape → Term → Option (List TermId) → Type 0
IsFit g depth s t None = fits_atom s t ≡ false
IsFit g depth s t (Some ts) = (fits_atom s t ≡ true) × HasArguments g depth t ts

-- the arguments of the goal of each constraint
abbrev pub AreArguments : Graph → List (List TermId) → List Constraint → Type 0
AreArguments g [] [] = Unit {0}
AreArguments g (ts ∷ tss) (c ∷ cs) = HasArguments g c.names c.term ts × AreArguments g tss cs
AreArguments g _ _ = ⊥
