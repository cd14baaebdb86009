use Rattle.std.proofs.Common.{◌∙◌, ap, Some}
use Rattle.beta_fragment.proofs.VarLemmas.{var-known}
use Rattle.pattern_unify.proofs.validity.is_own_valid.Goals as goal

pub var_depth-requires : goal.var_depth-requires
var_depth-requires c = var-known c.args.heap.now c.args.place.node.index c.in-Var.v c.is_sound.ensures (c.view.ensures ∙ ap Some c.in-Var.is)
