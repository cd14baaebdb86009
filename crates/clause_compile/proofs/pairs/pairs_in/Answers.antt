use Rattle.std.proofs.Common.{◌∙◌}
use Rattle.lp_resolve.specs.Plain.{plain_pair}
use Rattle.lp_resolve.specs.StaticRules.{goals_of}
use Rattle.clause_compile.proofs.PairLemmas.{filtered-more}
use Rattle.clause_compile.proofs.pairs.pairs_in.Goals as goal

pub loop-pair-preserved : goal.loop-pair-preserved
loop-pair-preserved c =
    c.in_ok-add_pair.ensures
    ∙ filtered-more (plain_pair (goals_of c.args.rule.now)) c.as_slice-pair-items.result.now c.args.rule.now.pairs c.loop-pair.pair-index (record { left = 0; right = 0 }) c.loop-pair.pairs c.as_slice-pair-items.ensures c.loop-pair-test.true c.loop-pair.invariant
