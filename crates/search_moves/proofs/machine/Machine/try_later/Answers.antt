use Rattle.std.proofs.Common.{◌∙◌, sym, ap, subst}
use Rattle.ref_terms.specs.unification.Unification.{unify}
use Rattle.ref_terms.specs.search.Next.{retry}
use Rattle.ref_terms.specs.search.Program.{modes_of}
use Rattle.search_moves.specs.Calling.{Leaves, resolved_later, ResolvedStops}
use Rattle.search_moves.specs.Machine.{branch_of, alternatives_of}
use Rattle.search_moves.proofs.SolveLemmas.{picked-true, picked-false}
use Rattle.search_moves.proofs.CallMoves.{retry-fits, retry-fails, retry-faults}
use Rattle.search_moves.proofs.MoveLemmas.{broken-off}
use Rattle.search_moves.proofs.machine.Machine.try_later.Goals as goal

pub returns-in-Ok-true-clause-moved : goal.returns-in-Ok-true-clause-moved
returns-in-Ok-true-clause-moved g c = λ p stands inputs.
    let call = c.args.call.now in
    let r = picked-true _ _ c.in-Ok-true.field-0 c.in-Ok-true.field-0-test (c.in-Ok-true.ensures.answer p stands inputs) in
    retry-fits p c.args.self.now c.set_phase.new.self call.goal.now call.pred c.args.later.now c.requires.call.first c.requires.call.head
    (record { resolved = r.resolved; found = r.found; branch = ap branch_of c.set_phase.ensures ∙ r.branch; alternatives = subst (Leaves p (branch_of c.args.self.now) r.resolved.later (alternatives_of p c.args.self.now)) (sym (ap (alternatives_of p) c.set_phase.ensures)) r.alternatives })
    (ap (λ z. z.phase) c.set_phase.ensures)

pub returns-in-Ok-false-clause-moved : goal.returns-in-Ok-false-clause-moved
returns-in-Ok-false-clause-moved g c = λ p stands inputs.
    let call = c.args.call.now in
    retry-fails p c.args.self.now c.resolve_later.new.self call.goal.now call.pred c.args.later.now c.requires.call.first c.requires.call.head
    (picked-false _ _ c.in-Ok-false.field-0 c.in-Ok-false.field-0-test (c.in-Ok-false.ensures.answer p stands inputs))
    ∙ ap (λ z. retry unify p (alternatives_of p z)) (sym (c.in-Ok-false.ensures.same c.in-Ok-false.field-0-test))

pub returns-in-Ok-false-clause-saved : goal.returns-in-Ok-false-clause-saved
returns-in-Ok-false-clause-saved g c = λ e. ap (λ z. z.saved) (c.in-Ok-false.ensures.same c.in-Ok-false.field-0-test)

pub returns-in-Err-Fault-clause-moved : goal.returns-in-Err-Fault-clause-moved
returns-in-Err-Fault-clause-moved g c = λ p stands inputs.
    let m = c.args.self.now in
    let call = c.args.call.now in
    broken-off p _ c.resolve_later.new.self c.break_off.new.self c.in-Err-Fault.e c.break_off.result
    (retry-faults p m c.break_off.new.self call.goal.now call.pred c.args.later.now c.requires.call.first c.requires.call.head c.in-Err-Fault.e
    (subst (ResolvedStops (resolved_later p m call.goal.now call.pred.0 c.args.later.now (modes_of p call.pred.0))) c.in-Err-Fault.field-0-is (c.in-Err-Fault.ensures.stops p stands inputs)))
    c.break_off.ensures.fault c.break_off.ensures.phase
