use Rattle.std.proofs.Common.{◌-◌}
use Rattle.std.specs.Prelude.{length}
use Rattle.beta_fragment.proofs.LevelLemmas.{older-take}
use Rattle.beta_fragment.proofs.glance.front_has_level.Goals as goal

pub some_has_level-requires : goal.some_has_level-requires
some_has_level-requires c = older-take (length c.args.heap.now.nodes) (length c.args.nodes.now - 1) c.args.nodes.now c.requires
