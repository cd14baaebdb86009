use Rattle.std.proofs.Common.{Some, ap, ◌∙◌, arith}
use Rattle.term_print.proofs.ChainLemmas.{body-older, below-step}
use Rattle.term_print.proofs.chain.nth_below.Goals as goal

pub loop-step-preserved : goal.loop-step-preserved
loop-step-preserved c =
    let k = body-older c.args.heap.now c.is_sound.ensures c.loop-step.node.index _ c.in-Lam.body (c.view.ensures ∙ ap Some c.in-Lam.is) in
    record {
      below = below-step c.args.heap.now c.loop-step._step c.args.lam.index c.loop-step.node.index _ c.in-Lam.body c.loop-step.invariant.below (c.view.ensures ∙ ap Some c.in-Lam.is);
      there = omega (arith, k, c.loop-step.invariant.there);
    }
