-- Sequents over joint names.
use Rattle.std.specs.Prelude.{◌≡◌, ℕ, List, [], ◌∷◌, length, Option, Some, None}
use Rattle.level_terms.specs.declared.node.TermId.{TermId}
use Rattle.level_terms.specs.Graph.{Graph}
use Rattle.level_terms.specs.Reading.{read}
use Rattle.level_terms.specs.Valid.{IsValid}
use Rattle.ref_terms.specs.search.Joint.{over_joint}
use Rattle.ref_terms.specs.unification.Closing.{names_below}
use Rattle.beta_fragment.specs.Names.{names}
use Rattle.eigen_align.specs.declared.sequent.Sequent.{Sequent}
use Rattle.eigen_align.specs.declared.sequent.JointNames.{JointNames}

-- the node reads as the term over the joint names, and is the same one where each name is its own
pub record IsLifted (old new : Graph) (t : TermId) (map : List ℕ) (depth : ℕ) (r : TermId) : Type 0 where
  pub reads : read new r.index names ≡ over_joint map (read old t.index names)
  pub valid : IsValid new r.index depth
  pub same : map ≡ names_below (length map) → r ≡ t

-- so does the node that there may be
abbrev pub IsLiftedIfAny : (old new : Graph) → Option TermId → List ℕ → ℕ → Option TermId → Type 0
IsLiftedIfAny old new None map depth None = Unit {0}
IsLiftedIfAny old new (Some t) map depth (Some r) = IsLifted old new t map depth r
IsLiftedIfAny old new None map depth (Some r) = ⊥
IsLiftedIfAny old new (Some t) map depth None = ⊥

-- the sequent is one of the joint depth, and its terms are over the joint names
pub record IsAligned (old new : Graph) (s : Sequent) (map : List ℕ) (joint_depth : ℕ) (r : Sequent) : Type 0 where
  pub depth : r.depth ≡ joint_depth
  pub goal : IsLifted old new s.goal map joint_depth r.goal
  pub context : IsLiftedIfAny old new s.context map joint_depth r.context

-- so are all, each by its own joint names
abbrev pub AreAlignedBy : (old new : Graph) → (depth : ℕ) → List Sequent → List (List ℕ) → List Sequent → Type 0
AreAlignedBy old new depth [] [] [] = Unit {0}
AreAlignedBy old new depth (s ∷ ss) (m ∷ ms) (r ∷ rs) = IsAligned old new s m depth r × AreAlignedBy old new depth ss ms rs
AreAlignedBy old new depth _ _ _ = ⊥

abbrev pub AreAligned : (old new : Graph) → List Sequent → JointNames → List Sequent → Type 0
AreAligned old new ss j rs = AreAlignedBy old new j.depth ss j.maps.items rs
