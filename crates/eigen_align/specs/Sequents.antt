-- Sequents as the reference's constraints, and joint names as its own.
use Rattle.std.specs.Prelude.{◌≡◌, ◌<◌, List, [], map, length, IfSome}
use Rattle.level_terms.specs.Graph.{Graph}
use Rattle.level_terms.specs.Reading.{read}
use Rattle.level_terms.specs.Valid.{IsValid}
use Rattle.ref_terms.specs.declared.pair.Pair.{Pair}
use Rattle.ref_terms.specs.search.Branch.{Constraint}
use Rattle.ref_terms.specs.search.Joint as reference
use Rattle.ref_terms.specs.search.Joint.{joint}
use Rattle.ref_terms.specs.search.Used.{Every}
use Rattle.beta_fragment.specs.Names.{names}
use Rattle.eigen_align.specs.declared.sequent.Sequent.{Sequent}
use Rattle.eigen_align.specs.declared.sequent.JointNames.{JointNames}
use Rattle.eigen_align.specs.Counts.{HaveCounts, HaveBelow}

-- a sequent as a constraint: alignment looks at its names and its goal alone
abbrev pub sequent_read : Graph → Sequent → Constraint
sequent_read g s = record { number = 0; names = s.depth; assumptions = []; term = read g s.goal.index names; keys = [] }

-- a constraint without what alignment doesn't look at
abbrev pub bare : Constraint → Constraint
bare c = record c { number = 0; assumptions = []; keys = [] }

-- joint names hang on names and terms alone
abbrev pub AlignmentIsBare : Type 0
AlignmentIsBare = (pairs : List Pair) (cs : List Constraint) → joint pairs (map bare cs) ≡ joint pairs cs

-- sequents as constraints
abbrev pub sequents_read : Graph → List Sequent → List Constraint
sequents_read g ss = map (sequent_read g) ss

-- the terms of a sequent are valid at its depth
abbrev pub IsSequent : Graph → Sequent → Type 0
IsSequent g s = IsValid g s.goal.index s.depth × IfSome s.context (λ t. IsValid g t.index s.depth)

-- so are those of all
abbrev pub AreSequents : Graph → List Sequent → Type 0
AreSequents g ss = Every (IsSequent g) ss

-- each pair is of an earlier head and a later one
abbrev pub ArePairs : List Pair → Type 0
ArePairs ps = Every (λ p. p.left_head < p.right_head) ps

-- the reference's joint names
abbrev pub joint_read : JointNames → reference.Joint
joint_read j = record { names = j.depth; maps = j.maps.items }

-- each sequent has as many joint names as names, and they lie below the joint depth
pub record FitSequents (ss : List Sequent) (j : JointNames) : Type 0 where
  pub all : length j.maps.items ≡ length ss
  pub counts : HaveCounts ss j.maps.items
  pub below : HaveBelow j.depth j.maps.items
