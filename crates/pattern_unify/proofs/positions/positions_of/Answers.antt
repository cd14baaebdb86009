use Rattle.std.proofs.Common.{arith}
use Rattle.std.proofs.lemmas.Grind.{common_steps}
use Rattle.pattern_unify.proofs.PositionLemmas.{positions-below}
use Rattle.pattern_unify.proofs.positions.positions_of.Goals as goal

pub returns-clause-below : goal.returns-clause-below
returns-clause-below c = positions-below c.loop-x.kept.items c.args.xs.now c.args.ys.now (grind (arith, common_steps))
