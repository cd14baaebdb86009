-- Goals that are put one by one before the others.
use Rattle.std.proofs.Common.{◌≡◌, ℕ, zero, suc, ◌<◌, ◌≤◌, List, [], ◌∷◌, ◌++◌, length, map, drop, slice_index_or, arith}
use Rattle.level_terms.specs.Valid.{IsValid}
use Rattle.level_terms.specs.Graph.{Graph}
use Rattle.level_terms.specs.declared.node.TermId.{TermId}
use Rattle.beta_fragment.specs.HeadForm.{all_read, AllValidAt}
use Rattle.ref_terms.specs.search.Branch.{Goal, with_goals}
use Rattle.search_moves.specs.declared.frame.Frame.{Frame}
use Rattle.search_moves.specs.World.{code_nodes}
use Rattle.search_moves.specs.Reading.{goal_in}
use Rattle.search_moves.specs.Machine.{Machine, branch_of, LeavesAlternatives}

-- the goals with the names and the assumptions of a frame
abbrev pub goals_with : Graph → Frame → (barrier : ℕ) → List TermId → List Goal
goals_with g f barrier ts = map (λ t. record (goal_in g f) { barrier = barrier; term = t }) (all_read g ts)

-- those from a place on are there
pub record IsPutting (old : Machine) (f : Frame) (barrier : ℕ) (ts : List TermId) (new : Machine) (n : ℕ) : Type 0 where
  pub within : n ≤ length ts
  pub heap : new.world.heap ≡ old.world.heap
  pub branch : branch_of new ≡ with_goals (goals_with old.world.heap f barrier (drop n ts) ++ (branch_of old).goals) (branch_of old)
  pub saved : new.saved ≡ old.saved
  pub phase : new.phase ≡ old.phase
  pub code : code_nodes new.world ≡ code_nodes old.world
  pub alternatives : LeavesAlternatives old new

pub valid-from : (g : Graph) (ts : List TermId) (n depth : ℕ) (d : TermId) → n < length ts → AllValidAt g ts depth → IsValid g (slice_index_or ts n d).index depth
valid-from g [] n depth d h v = absurd (omega (arith, h))
valid-from g (t ∷ ts) zero depth d h v = v.0
valid-from g (t ∷ ts) (suc n) depth d h v = valid-from g ts n depth d (omega (arith, h)) v.1
