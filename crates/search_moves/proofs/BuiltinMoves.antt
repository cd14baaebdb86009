-- What built-ins come to.
use Rattle.std.proofs.Common.{◌≡◌, ℕ, List, Option, length, refl, sym, ap, ap₂, ◌∙◌}
use Rattle.level_terms.specs.declared.node.TermId.{TermId}
use Rattle.level_terms.specs.Graph.{Graph}
use Rattle.beta_fragment.specs.HeadForm.{all_read}
use Rattle.ref_terms.specs.declared.fault.Fault.{Fault}
use Rattle.ref_terms.specs.declared.reserved.Reserved.{Reserved}
use Rattle.ref_terms.specs.search.Formula.{reserved_goal}
use Rattle.ref_terms.specs.search.Program.{Program}
use Rattle.ref_terms.specs.search.Branch.{Branch, bound_branch, with_goals}
use Rattle.ref_terms.specs.search.State.{Alternative, Running, Move, faults}
use Rattle.ref_terms.specs.search.BranchMove.{fails}
use Rattle.beta_fragment.specs.declared.answer.UnifyStop.TheVariants as stop
use Rattle.builtins.specs.Moves.{FailsSo, BreaksOff, event_shown}
use Rattle.search_moves.specs.declared.frame.Frame.{Frame}
use Rattle.search_moves.specs.declared.machine.Phase.TheVariants as phase
use Rattle.search_moves.specs.declared.machine.Event.{Event}
use Rattle.search_moves.specs.declared.machine.Event.TheVariants as event
use Rattle.search_moves.specs.Reading.{goal_in}
use Rattle.search_moves.specs.Machine.{Machine, branch_of, alternatives_of, rest_of, event_of, state_at, move_of, HasMoved, GoesOnSo, whole}
use Rattle.search_moves.proofs.MoveLemmas.{moved-as, failed}

module _ (p : Program) (table : List (List ℕ)) (known : p.symbols ≡ table) (old m new : Machine) (f : Frame) (w : Reserved) (ts : List TermId) (heap : m.world.heap ≡ old.world.heap) where
  -- the goal in the heap of the machine that has left it
  same : move_of p old f (reserved_goal w (all_read old.world.heap ts)) ≡ move_of p old f (reserved_goal w (all_read m.world.heap ts))
  same = ap (λ h. move_of p old f (reserved_goal w (all_read h ts))) (sym heap)

  variables : (branch_of old).next_var ≡ length m.world.heap.depths
  variables = ap (λ (h : Graph). length h.depths) (sym heap)

  pub builtin-goes : (shown : Option (List ℕ)) (e : Event) → branch_of m ≡ with_goals (rest_of old f) (branch_of old) → alternatives_of p new ≡ alternatives_of p old → new.phase ≡ phase.Running
      → GoesOnSo table m new f.depth (reserved_goal w (all_read m.world.heap ts)) shown → ((z : Machine) → event_of z e ≡ event_shown shown)
      → HasMoved p (move_of p old f (reserved_goal w (all_read old.world.heap ts))) e new
  builtin-goes shown e branch others running h shows =
      let left = with_goals (rest_of old f) (branch_of old) in
      let n = length new.world.heap.depths in
      let last : Move = record { event = event_shown shown; state = Running (bound_branch h.made n left) (alternatives_of p old) } in
      moved-as p (move_of p old f (reserved_goal w (all_read old.world.heap ts))) last e new
      (same ∙ h.moves p (branch_of old) (goal_in old.world.heap f) (rest_of old f) (alternatives_of p old) known variables refl)
      (record { event = shows new; state = whole (ap (state_at p new) running ∙ ap₂ (λ (b : Branch) (xs : List Alternative). Running b xs) (h.branch ∙ ap (bound_branch h.made n) branch) others) })

  pub builtin-fails : alternatives_of p new ≡ alternatives_of p old → new.phase ≡ phase.Failed → FailsSo table m.world.heap f.depth (reserved_goal w (all_read m.world.heap ts))
      → HasMoved p (move_of p old f (reserved_goal w (all_read old.world.heap ts))) event.Moved new
  builtin-fails others ended h =
      moved-as p (move_of p old f (reserved_goal w (all_read old.world.heap ts))) (fails (alternatives_of p old)) event.Moved new
      (same ∙ h p (branch_of old) (goal_in old.world.heap f) (rest_of old f) (alternatives_of p old) known variables refl)
      (failed p new (alternatives_of p old) ended others)

  pub builtin-breaks : (e : Fault) → BreaksOff table m.world.heap f.depth (reserved_goal w (all_read m.world.heap ts)) (stop.Fault e) → move_of p old f (reserved_goal w (all_read old.world.heap ts)) ≡ faults e
  builtin-breaks e h = same ∙ h p (branch_of old) (goal_in old.world.heap f) (rest_of old f) (alternatives_of p old) known variables refl
