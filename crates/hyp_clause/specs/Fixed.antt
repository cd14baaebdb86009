-- Hypothetical clauses in which nothing can change.
use Rattle.std.specs.Prelude.{◌≡◌, ℕ, true, false, List}
use Rattle.std.specs.List.{list_all}
use Rattle.ref_terms.specs.search.Assumption.{Assumption}
use Rattle.ref_terms.specs.search.Touched.{assumption_has}
use Rattle.level_terms.specs.declared.node.Change.{Change}
use Rattle.level_terms.specs.Graph.{Graph}
use Rattle.level_terms.specs.GroundNormal.{is_ground_normal}
use Rattle.level_terms.specs.Growth.{Grows}
use Rattle.level_terms.specs.Sound.{IsSound}
use Rattle.hyp_clause.specs.declared.hyp.Hyp.{Hyp}
use Rattle.hyp_clause.specs.Hyps.{assumption_in, IsHypValid}

-- whatever a call may change leaves what a clause with the flag reads as
abbrev pub FlaggedReadTheSame : Type 0
FlaggedReadTheSame = (g h : Graph) (r s : List Change) (x : Hyp) → IsSound g → Grows g h r s → IsHypValid g x → x.ground_normal ≡ true → assumption_in h x ≡ assumption_in g x

-- no variable stands in it
abbrev pub FlaggedHaveNoVariable : Type 0
FlaggedHaveNoVariable = (g : Graph) (x : Hyp) (v : ℕ) → IsHypValid g x → x.ground_normal ≡ true → assumption_has v (assumption_in g x) ≡ false

-- neither a variable nor a stuck abstraction stands in the terms of an assumption
pub record IsGroundAssumption (a : Assumption) : Type 0 where
  pub head : is_ground_normal a.head ≡ true
  pub conditions : list_all is_ground_normal a.conditions ≡ true
  pub assumed : is_ground_normal a.assumed ≡ true

-- so it is of a clause with the flag
abbrev pub FlaggedAreGround : Type 0
FlaggedAreGround = (g : Graph) (x : Hyp) → IsHypValid g x → x.ground_normal ≡ true → IsGroundAssumption (assumption_in g x)
