use Rattle.std.proofs.Common.{◌∙◌, ap, Some}
use Rattle.beta_fragment.proofs.VarLemmas.{var-known}
use Rattle.pattern_unify.proofs.renewing.is_open_node.Goals as goal

pub value-requires : goal.value-requires
value-requires c = var-known c.args.heap.now c.args.node.index c.in-Var.v c.is_sound.ensures (c.view.ensures ∙ ap Some c.in-Var.is)
