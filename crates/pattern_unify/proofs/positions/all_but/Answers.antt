use Rattle.std.proofs.Common.{arith}
use Rattle.std.proofs.lemmas.Grind.{common_steps}
use Rattle.pattern_unify.proofs.PositionLemmas.{all_but-below, up-front}
use Rattle.pattern_unify.proofs.positions.all_but.Goals as goal

pub loop-k-preserved : goal.loop-k-preserved
loop-k-preserved c = grind (arith, common_steps, up-front)

pub returns-clause-below : goal.returns-clause-below
returns-clause-below c = all_but-below c.loop-k.kept.items c.args.position c.args.arity (grind (arith, common_steps))
