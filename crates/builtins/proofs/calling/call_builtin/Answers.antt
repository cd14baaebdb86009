use Rattle.std.proofs.Common.{ap, ◌∙◌}
use Rattle.beta_fragment.specs.HeadForm.{all_read}
use Rattle.builtins.specs.Outcome.{outcome, printed_after}
use Rattle.builtins.proofs.CallLemmas.{ok-both, err-each}
use Rattle.builtins.proofs.MoveLemmas.{moves-on, breaks-off}
use Rattle.builtins.proofs.calling.call_builtin.Goals as goal

pub returns-clause-moves : goal.returns-clause-moves
returns-clause-moves c =
    let ts = all_read c.args.heap.now c.args.args.now in
    ok-both _ _ _ c.call_by_count.result
    (λ b w printed none. moves-on c.args.symbols.now c.args.heap.now c.call_by_count.new.heap c.args.depth c.args.kind ts c.call_by_count.new.events (printed ∙ ap (printed_after c.args.symbols.now (outcome c.args.kind ts)) none) b w)
    c.call_by_count.ensures.answer c.call_by_count.ensures.printed

pub returns-clause-breaks_off : goal.returns-clause-breaks_off
returns-clause-breaks_off c =
    err-each _ _ c.call_by_count.result
    (λ stop w. breaks-off c.args.symbols.now c.args.heap.now c.args.heap.now c.args.depth c.args.kind (all_read c.args.heap.now c.args.args.now) stop w)
    c.call_by_count.ensures.stops
