use Rattle.std.proofs.lemmas.Result.{IfOk-weaker}
use Rattle.beta_fragment.proofs.StandLemmas.{form-low}
use Rattle.beta_fragment.proofs.head.whnf.Goals as goal

pub returns-clause-low : goal.returns-clause-low
returns-clause-low c = IfOk-weaker c.whnf_within.result _ _ (λ w k. form-low c.args.heap.now c.whnf_within.new.heap c.args.t.index c.args.depth w c.requires k) c.whnf_within.ensures.form
