use Rattle.std.proofs.Common.{◌∙◌, ap, Some}
use Rattle.beta_fragment.proofs.VarLemmas.{var-known}
use Rattle.beta_fragment.proofs.FirmLemmas.{var-is_open}
use Rattle.beta_fragment.proofs.glance.is_open.Goals as goal

pub is_free-requires : goal.is_free-requires
is_free-requires c = var-known c.args.heap.now c.args.t.index c.in-Var.v c.is_sound.ensures (c.view.ensures ∙ ap Some c.in-Var.is)

pub returns-in-Var : goal.returns-in-Var
returns-in-Var c = λ q. var-is_open c.args.heap.now c.args.t.index c.in-Var.v c.is_sound.ensures (c.view.ensures ∙ ap Some c.in-Var.is) (c.is_free.ensures q)
