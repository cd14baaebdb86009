use Rattle.std.specs.Prelude.{length}
use Rattle.beta_fragment.proofs.LevelLemmas.{older-at, some-has}
use Rattle.beta_fragment.proofs.glance.some_has_level.Goals as goal

pub has_level-requires : goal.has_level-requires
has_level-requires c = older-at (length c.args.heap.now.nodes) c.args.nodes.now c.loop-t.t-index (record { index = 0 }) c.loop-t-test.true c.requires

pub returns-then-has_level : goal.returns-then-has_level
returns-then-has_level c = λ q. some-has c.args.heap.now c.args.level c.args.nodes.now c.loop-t.t-index (record { index = 0 }) c.loop-t-test.true (c.has_level.ensures c.if-has_level.true)
