-- Goals that are suspended.
use Rattle.std.proofs.Common.{◌≡◌, ℕ, suc, List, [], ◌∷◌, ◌++◌, map, Some, None, ap, ap₂, ◌∙◌}
use Rattle.level_terms.specs.declared.node.TermId.{TermId}
use Rattle.level_terms.specs.Graph.{Graph}
use Rattle.level_terms.specs.Reading.{read}
use Rattle.beta_fragment.specs.Names.{names}
use Rattle.beta_fragment.specs.HeadForm.{all_read}
use Rattle.ref_terms.specs.terms.Term.{Term}
use Rattle.ref_terms.specs.declared.fault.Fault.TheVariants.{NotGoal}
use Rattle.ref_terms.specs.search.Assumption.{Assumption}
use Rattle.ref_terms.specs.search.Program.{Program}
use Rattle.ref_terms.specs.search.Formula.{Suspending}
use Rattle.ref_terms.specs.search.Lists.{items_of}
use Rattle.ref_terms.specs.search.Branch.{Goal, Branch, with_goals}
use Rattle.ref_terms.specs.search.BranchMove.{suspends}
use Rattle.ref_terms.specs.search.State.{faults, goes_on}
use Rattle.hyp_clause.specs.Hyps.{assumption_in}
use Rattle.search_moves.specs.declared.frame.Frame.{Frame}
use Rattle.search_moves.specs.declared.machine.Phase.TheVariants as phase
use Rattle.search_moves.specs.declared.machine.Event.TheVariants as event
use Rattle.search_moves.specs.Reading.{goal_in}
use Rattle.search_moves.specs.Machine.{Machine, branch_of, alternatives_of, rest_of, move_of, IsFirst, HasMoved}
use Rattle.search_moves.proofs.EnterLemmas.{goals-are, first-is, rest-is}
use Rattle.search_moves.proofs.MoveLemmas.{moved, moved-as}

-- keys that are no list are a fault
pub no-keys : (p : Program) (m : Machine) (f : Frame) (t k : Term) → items_of k ≡ None → move_of p m f (Suspending t k) ≡ faults NotGoal
no-keys p m f t k e = ap (suspends (goal_in m.world.heap f) t (branch_of m) (rest_of m f) (alternatives_of p m)) e

-- the branch with a constraint more
abbrev with_constraint : (depth : ℕ) → Branch → List Goal → List Assumption → Term → List Term → Branch
with_constraint depth b gs hs t ks = record b {
  goals = gs;
  store = b.store ++ record { number = suc b.declared; names = depth; assumptions = hs; term = t; keys = ks } ∷ [];
  declared = suc b.declared;
}

-- the branch as it is in the heap, with one more
abbrev pub joined : Graph → Frame → TermId → List TermId → Branch → Branch
joined g f t ks b = record b {
  store = b.store ++ record { number = suc b.declared; names = f.depth; assumptions = map (assumption_in g) f.context; term = read g t.index names; keys = all_read g ks } ∷ [];
  declared = suc b.declared;
}

pub suspended-moved : (p : Program) (old m1 m2 new : Machine) (f : Frame) (t k : TermId) (ks : List TermId) → IsFirst old f → IsFirst m1 f → branch_of m1 ≡ branch_of old
    → read m1.world.heap t.index names ≡ read old.world.heap t.index names → items_of (read old.world.heap k.index names) ≡ Some (all_read m1.world.heap ks)
    → m2.world.heap ≡ m1.world.heap → branch_of m2 ≡ with_goals (rest_of m1 f) (branch_of m1) → branch_of new ≡ joined m2.world.heap f t ks (branch_of m2)
    → new.phase ≡ phase.Running → alternatives_of p new ≡ alternatives_of p old → HasMoved p (move_of p old f (Suspending (read old.world.heap t.index names) (read old.world.heap k.index names))) event.Moved new
suspended-moved p old m1 m2 new f t k ks first first1 same reads items heap taken put running others =
    let goal : goal_in m1.world.heap f ≡ goal_in old.world.heap f = first-is m1 f (branch_of old) (goal_in old.world.heap f) (rest_of old f) first1 same (goals-are old f first) in
    let rest : rest_of m1 f ≡ rest_of old f = rest-is m1 f (branch_of old) (goal_in old.world.heap f) (rest_of old f) first1 same (goals-are old f first) in
    let shape : Branch → List Goal → List Assumption → Term → Branch = λ b gs hs u. with_constraint f.depth b gs hs u (all_read m1.world.heap ks) in
    let g1 = m1.world.heap in
    let is : branch_of new ≡ shape (branch_of old) (rest_of old f) (map (assumption_in old.world.heap) f.context) (read old.world.heap t.index names) =
    put ∙ ap₂ (λ (h : Graph) (b : Branch). joined h f t ks b) heap taken
    ∙ ap (λ b. shape b (rest_of m1 f) (map (assumption_in g1) f.context) (read g1 t.index names)) same
    ∙ ap (λ gs. shape (branch_of old) gs (map (assumption_in g1) f.context) (read g1 t.index names)) rest
    ∙ ap (λ x. shape (branch_of old) (rest_of old f) x.assumptions (read g1 t.index names)) goal
    ∙ ap (shape (branch_of old) (rest_of old f) (map (assumption_in old.world.heap) f.context)) reads in
    moved-as p (move_of p old f (Suspending (read old.world.heap t.index names) (read old.world.heap k.index names)))
    (goes_on (shape (branch_of old) (rest_of old f) (map (assumption_in old.world.heap) f.context) (read old.world.heap t.index names)) (alternatives_of p old)) event.Moved new
    (ap (suspends (goal_in old.world.heap f) (read old.world.heap t.index names) (branch_of old) (rest_of old f) (alternatives_of p old)) items)
    (moved p new _ (alternatives_of p old) running is others)
