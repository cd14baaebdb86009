use Rattle.std.proofs.Common.{◌∙◌, ap, sym, subst}
use Rattle.goal_form.specs.Builtins.{builtin_word}
use Rattle.beta_fragment.specs.HeadForm.{AllValidAt}
use Rattle.ref_terms.specs.search.Formula.{reserved_goal}
use Rattle.beta_fragment.specs.HeadForm.{all_read}
use Rattle.builtins.specs.Moves.{BreaksOff}
use Rattle.search_moves.specs.Machine.{alternatives_of}
use Rattle.search_moves.proofs.SolveLemmas.{picked-true, picked-false}
use Rattle.search_moves.proofs.BuiltinMoves.{builtin-goes, builtin-fails, builtin-breaks}
use Rattle.search_moves.proofs.MoveLemmas.{broken-off}
use Rattle.search_moves.proofs.machine.Machine.built_in.Goals as goal

pub call_builtin-requires : goal.call_builtin-requires
call_builtin-requires c = subst (λ h. AllValidAt h c.args.args.now c.args.goal.now.depth) (sym c.take.ensures.heap) c.requires.arguments

pub returns-in-Ok-true-clause-moved : goal.returns-in-Ok-true-clause-moved
returns-in-Ok-true-clause-moved c = λ p known.
    builtin-goes p c.args.symbols.now known c.args.self.now c.take.new.self c.call_builtin.new.self c.args.goal.now (builtin_word c.args.builtin) c.args.args.now c.take.ensures.heap
    c.call_builtin.new.events c.event_of.result c.take.ensures.branch (c.call_builtin.ensures.alternatives p ∙ c.take.ensures.alternatives p) (c.call_builtin.ensures.phase ∙ c.take.ensures.phase ∙ c.requires.running)
    (picked-true _ _ c.in-Ok-true.field-0 c.in-Ok-true.field-0-test (c.in-Ok-true.ensures.answer c.new-events.ensures)) c.event_of.ensures

pub returns-in-Ok-false-clause-moved : goal.returns-in-Ok-false-clause-moved
returns-in-Ok-false-clause-moved c = λ p known.
    builtin-fails p c.args.symbols.now known c.args.self.now c.take.new.self c.set_phase.new.self c.args.goal.now (builtin_word c.args.builtin) c.args.args.now c.take.ensures.heap
    (ap (alternatives_of p) c.set_phase.ensures ∙ c.call_builtin.ensures.alternatives p ∙ c.take.ensures.alternatives p) (ap (λ m. m.phase) c.set_phase.ensures)
    (picked-false _ _ c.in-Ok-false.field-0 c.in-Ok-false.field-0-test (c.in-Ok-false.ensures.answer c.new-events.ensures))

pub returns-in-Err-Fault-clause-moved : goal.returns-in-Err-Fault-clause-moved
returns-in-Err-Fault-clause-moved c = λ p known.
    broken-off p _ c.call_builtin.new.self c.break_off.new.self c.in-Err-Fault.e c.break_off.result
    (builtin-breaks p c.args.symbols.now known c.args.self.now c.take.new.self c.break_off.new.self c.args.goal.now (builtin_word c.args.builtin) c.args.args.now c.take.ensures.heap c.in-Err-Fault.e
    (subst (BreaksOff c.args.symbols.now c.take.new.self.world.heap c.args.goal.now.depth (reserved_goal (builtin_word c.args.builtin) (all_read c.take.new.self.world.heap c.args.args.now))) c.in-Err-Fault.field-0-is c.in-Err-Fault.ensures.breaks_off))
    (rw c.in-Err-Fault.field-0-is at c.break_off.ensures.fault) (rw c.in-Err-Fault.field-0-is at c.break_off.ensures.phase)
