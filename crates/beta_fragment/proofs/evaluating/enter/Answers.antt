use Rattle.std.proofs.Common.{◌<◌, length, arith}
use Rattle.beta_fragment.proofs.EvaluationLemmas.{entered-set}
use Rattle.beta_fragment.proofs.evaluating.enter.Goals as goal

pub returns-then-made-len : goal.returns-then-made-len
returns-then-made-len c =
    let within : c.args.made < length c.args.entries.now.items = omega arith in
    entered-set c.args.entries.now.items c.args.made c.args.under c.index-before.result.now within c.index-before.ensures
