use Rattle.std.specs.Prelude.{length}
use Rattle.beta_fragment.proofs.LevelLemmas.{older-at, some-has}
use Rattle.beta_fragment.proofs.glance.is_among.Goals as goal

pub is_level-requires : goal.is_level-requires
is_level-requires c = older-at (length c.args.heap.now.nodes) c.args.nodes.now c.loop-t.t-index (record { index = 0 }) c.loop-t-test.true c.requires

pub returns-then-is_level : goal.returns-then-is_level
returns-then-is_level c = λ q. some-has c.args.heap.now c.args.level c.args.nodes.now c.loop-t.t-index (record { index = 0 }) c.loop-t-test.true (c.is_level.ensures c.if-is_level.true)
