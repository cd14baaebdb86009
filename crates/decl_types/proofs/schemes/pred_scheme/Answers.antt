use Rattle.std.proofs.Common.{◌-◌, arith}
use Rattle.decl_types.proofs.Preds.{pred-step}
use Rattle.decl_types.proofs.schemes.pred_scheme.Goals as goal

pub loop-index-preserved : goal.loop-index-preserved
loop-index-preserved c =
    let i = c.loop-index.index in
    record {
      within = omega (arith, c.loop-index.invariant.within);
      types = pred-step c.args.args.now i (i - 1) c.index-args-index.result _ c.loop-index.scheme c.in_ok-argument.argument c.in_ok-scheme.scheme
          (omega (arith, c.loop-index-test.true)) (omega (arith, c.loop-index-test.true, c.loop-index.invariant.within)) c.index-args-index.is
          c.loop-index.invariant.types c.in_ok-argument.ensures c.in_ok-scheme.ensures;
    }
