use Rattle.std.proofs.Common.{arith}
use Rattle.std.proofs.lemmas.Grind.{common_steps}
use Rattle.pattern_unify.proofs.PositionLemmas.{agreeing-below}
use Rattle.pattern_unify.proofs.positions.agreeing.Goals as goal

pub returns-clause-below : goal.returns-clause-below
returns-clause-below c = agreeing-below c.loop-i.kept.items c.args.xs.now c.args.ys.now (grind (arith, common_steps))
