use Rattle.std.proofs.Common.{◌∙◌, ap, Some}
use Rattle.beta_fragment.proofs.VarLemmas.{var-known}
use Rattle.beta_fragment.proofs.PairLemmas.{value-found}
use Rattle.beta_fragment.proofs.equality.value_at.Goals as goal

pub value-requires : goal.value-requires
value-requires c = var-known c.args.heap.now c.args.t.index c.in-Var.v c.is_sound.ensures (c.view.ensures ∙ ap Some c.in-Var.is)

pub returns-in-Var : goal.returns-in-Var
returns-in-Var c = value-found c.args.heap.now c.args.t.index c.in-Var.v c.value.result c.is_sound.ensures (c.view.ensures ∙ ap Some c.in-Var.is) c.value.ensures.value
