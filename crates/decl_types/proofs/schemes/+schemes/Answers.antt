use Rattle.decl_types.proofs.SchemeLemmas.{applied-more}
use Rattle.decl_types.proofs.schemes.+schemes.Goals as goal

pub apply_all-loop-arg-preserved : goal.apply_all-loop-arg-preserved
apply_all-loop-arg-preserved t c =
    applied-more c.args.function c.loop-arg.scheme c.in_ok-scheme.scheme c.in_ok-argument.argument c.args.args.now c.loop-arg.arg-index c.arg-item.result c.loop-arg-test.true c.arg-item.is
    c.loop-arg.invariant c.in_ok-argument.ensures c.in_ok-scheme.ensures
