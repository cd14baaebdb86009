use Rattle.std.proofs.Common.{ap, ◌∙◌, subst}
use Rattle.beta_fragment.specs.HeadForm.{all_read}
use Rattle.ref_terms.specs.search.Program.{modes_of}
use Rattle.search_moves.specs.declared.frame.Later.TheVariants.{Assumptions}
use Rattle.search_moves.specs.Calling.{resolved_later, ResolvedStops}
use Rattle.search_moves.specs.Machine.{alternatives_of}
use Rattle.search_moves.proofs.SolveLemmas.{picked-true, picked-false}
use Rattle.search_moves.proofs.CallMoves.{call-fits, call-fails, call-faults}
use Rattle.search_moves.proofs.MoveLemmas.{broken-off}
use Rattle.search_moves.proofs.machine.Machine.call_candidates.Goals as goal

pub resolve_from-requires-clause-left : goal.resolve_from-requires-clause-left
resolve_from-requires-clause-left g c = c.for_pred.ensures

pub returns-in-Ok-true-clause-moved : goal.returns-in-Ok-true-clause-moved
returns-in-Ok-true-clause-moved g c = λ p stands inputs known.
    let m = c.args.self.now in
    let call = c.args.call.now in
    call-fits p m c.resolve_from.new.self call.goal.now call.pred.0 (all_read m.world.heap call.args.now) c.for_pred.result c.requires.call.first known
    (picked-true _ _ c.in-Ok-true.field-0 c.in-Ok-true.field-0-test (c.in-Ok-true.ensures.answer p stands inputs)) (c.resolve_from.ensures.phase ∙ c.requires.running)

pub returns-in-Ok-false-clause-moved : goal.returns-in-Ok-false-clause-moved
returns-in-Ok-false-clause-moved g c = λ p stands inputs known.
    let m = c.args.self.now in
    let call = c.args.call.now in
    call-fails p m c.set_phase.new.self call.goal.now call.pred.0 (all_read m.world.heap call.args.now) c.for_pred.result c.requires.call.first known
    (picked-false _ _ c.in-Ok-false.field-0 c.in-Ok-false.field-0-test (c.in-Ok-false.ensures.answer p stands inputs)) (ap (λ z. z.phase) c.set_phase.ensures)
    (ap (λ z. alternatives_of p z) c.set_phase.ensures ∙ ap (alternatives_of p) (c.in-Ok-false.ensures.same c.in-Ok-false.field-0-test))

pub returns-in-Err-Fault-clause-moved : goal.returns-in-Err-Fault-clause-moved
returns-in-Err-Fault-clause-moved g c = λ p stands inputs known.
    let m = c.args.self.now in
    let call = c.args.call.now in
    broken-off p _ c.resolve_from.new.self c.break_off.new.self c.in-Err-Fault.e c.break_off.result
    (call-faults p m c.break_off.new.self call.goal.now call.pred.0 (all_read m.world.heap call.args.now) c.for_pred.result c.requires.call.first known c.in-Err-Fault.e
    (subst (ResolvedStops (resolved_later p m call.goal.now call.pred.0 (Assumptions 0 c.for_pred.result) (modes_of p call.pred.0))) c.in-Err-Fault.field-0-is (c.in-Err-Fault.ensures.stops p stands inputs)))
    c.break_off.ensures.fault c.break_off.ensures.phase
