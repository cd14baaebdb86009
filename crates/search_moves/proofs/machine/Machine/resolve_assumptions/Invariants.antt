use Rattle.std.proofs.Common.{◌≡◌, length, drop}
use Rattle.hyp_context.specs.Contexts.{hyps_for}
use Rattle.ref_terms.specs.search.Program.{Program, modes_of}
use Rattle.search_moves.specs.declared.frame.Later.TheVariants.{Assumptions}
use Rattle.search_moves.specs.World.{code_nodes}
use Rattle.search_moves.specs.Calling.{HasInputs, resolved_later}
use Rattle.search_moves.proofs.machine.Machine.resolve_assumptions.Given as goal

-- the machine is as it was, and the assumptions before those that are left clash
abbrev pub invariant-loop-hyp : goal.invariant-loop-hyp
invariant-loop-hyp g l =
    (l.self ≡ l.fn.self) × (l.left ≡ drop l.at (hyps_for l.call.pred.0 l.call.goal.now.context))
    × ((p : Program) → g.C.Clauses.stands (code_nodes l.fn.self.world) l.code p → HasInputs l.call (modes_of p l.call.pred.0)
    → resolved_later p l.fn.self l.call.goal.now l.call.pred.0 (Assumptions l.fn.place l.fn.hyps) (modes_of p l.call.pred.0) ≡ resolved_later p l.fn.self l.call.goal.now l.call.pred.0 (Assumptions l.at l.fn.hyps) (modes_of p l.call.pred.0))

abbrev pub decreases-loop-hyp : goal.decreases-loop-hyp
decreases-loop-hyp g l = length l.left
