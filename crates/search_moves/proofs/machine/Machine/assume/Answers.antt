use Rattle.std.proofs.Common.{sym, subst}
use Rattle.search_moves.specs.World.{IsContextAt}
use Rattle.search_moves.proofs.OwnLemmas.{context-append}
use Rattle.search_moves.proofs.machine.Machine.assume.Goals as goal

pub put-requires-clause-context : goal.put-requires-clause-context
put-requires-clause-context c =
    let d = c.args.goal.now.depth in
    let g = c.compile_hyp.new.self.world.heap in
    subst (λ h. IsContextAt h d c.in_ok-context.context) (sym c.take.ensures.heap)
    (subst (IsContextAt g d) (sym c.in_ok-context.ensures) (context-append g d c.in-Ok.hyps c.args.goal.now.context c.in-Ok.ensures.context c.compile_hyp.ensures.first.context))
