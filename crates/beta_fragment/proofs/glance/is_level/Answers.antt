use Rattle.std.proofs.Common.{◌∙◌, ap, Some}
use Rattle.beta_fragment.proofs.LevelLemmas.{level-has}
use Rattle.beta_fragment.proofs.glance.is_level.Goals as goal

pub returns-in-Level : goal.returns-in-Level
returns-in-Level c = λ q. level-has c.args.heap.now c.args.t.index c.in-Level.l c.args.level c.is_sound.ensures (c.view.ensures ∙ ap Some c.in-Level.is) (c.are_same.ensures q)
