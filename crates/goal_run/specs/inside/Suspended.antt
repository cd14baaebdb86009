-- Lines of suspended goals.
use Rattle.std.specs.Prelude.{ℕ, List, [], ◌∷◌, map, flat_map}
use Rattle.level_terms.specs.declared.node.TermId.{TermId}
use Rattle.level_terms.specs.Graph.{Graph}
use Rattle.level_terms.specs.Valid.{IsValid}
use Rattle.beta_fragment.specs.HeadForm.{AllValidAt}
use Rattle.ref_terms.specs.search.Branch.{Constraint}
use Rattle.ref_terms.specs.texts.Text.{Part}
use Rattle.ref_terms.specs.texts.Answer.{indented, sequent_parts}
use Rattle.hyp_clause.specs.declared.hyp.Hyp.{Hyp}
use Rattle.suspend.specs.declared.constraint.Constraint.{Constraint as Suspended}
use Rattle.term_print.specs.Sequents.{IsSequent}

-- the line of a suspended goal
abbrev pub suspended_line : List (List ℕ) → Constraint → List Part
suspended_line table c = indented (sequent_parts table c)

-- the lines of suspended goals
abbrev pub suspended_lines : List (List ℕ) → List Constraint → List Part
suspended_lines table cs = flat_map (λ c. suspended_line table c) cs

-- the terms that were assumed, in the order in which the clauses are tried
abbrev pub assumed_terms : List Hyp → List TermId
assumed_terms hs = map (λ h. h.term) hs

-- what is printed of a suspended goal is valid at its names
pub record IsShowable (g : Graph) (s : Suspended (List Hyp)) : Type 0 where
  pub goal : IsValid g s.goal.index s.names
  pub assumed : AllValidAt g (assumed_terms s.context) s.names

-- so one by one
abbrev pub AllShowable : Graph → List (ℕ × Suspended (List Hyp)) → Type 0
AllShowable g [] = Unit {0}
AllShowable g (e ∷ es) = IsShowable g e.1 × AllShowable g es

-- a suspended goal reads as this constraint, as far as is printed
abbrev pub ShowsAs : Graph → Suspended (List Hyp) → Constraint → Type 0
ShowsAs g s c = IsSequent g s.names (assumed_terms s.context) s.goal c
