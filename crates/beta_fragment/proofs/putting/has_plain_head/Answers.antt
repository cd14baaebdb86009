use Rattle.std.proofs.Common.{◌∙◌, ap, Some}
use Rattle.level_terms.proofs.MakeLemmas.{parts-there}
use Rattle.beta_fragment.proofs.putting.has_plain_head.Goals as goal

pub is_plain-requires : goal.is_plain-requires
is_plain-requires c = (parts-there c.args.heap.now c.args.node.index _ c.is_sound.ensures (c.view.ensures ∙ ap Some c.in-App.is)).0
