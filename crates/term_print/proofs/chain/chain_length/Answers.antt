use Rattle.std.proofs.Common.{Some, ap, ◌∙◌, arith}
use Rattle.term_print.proofs.ChainLemmas.{body-older}
use Rattle.term_print.proofs.chain.chain_length.Goals as goal

pub loop-count-preserved : goal.loop-count-preserved
loop-count-preserved c = let k = body-older c.args.heap.now c.is_sound.ensures c.loop-count.node.index _ c.in-Lam.body (c.view.ensures ∙ ap Some c.in-Lam.is) in omega (arith, k, c.loop-count.invariant)
