use Rattle.std.proofs.Common.{◌∙◌, ap, Some}
use Rattle.beta_fragment.proofs.SpineLemmas.{head-below, spine-found}
use Rattle.beta_fragment.proofs.equality.spine_head.Goals as goal

pub head_at-requires : goal.head_at-requires
head_at-requires c = head-below c.args.heap.now c.args.t.index c.in-App.head c.in-App.args c.is_sound.ensures (c.view.ensures ∙ ap Some c.in-App.is)

pub returns-in-App : goal.returns-in-App
returns-in-App c = spine-found c.args.heap.now c.args.t.index c.in-App.head c.in-App.args c.head_at.result c.is_sound.ensures (c.view.ensures ∙ ap Some c.in-App.is) c.head_at.ensures
