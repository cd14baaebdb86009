use Rattle.std.proofs.Common.{◌∙◌, ap, Some}
use Rattle.level_terms.proofs.MakeLemmas.{parts-there}
use Rattle.level_terms.specs.declared.node.Node.TheVariants.{App}
use Rattle.beta_fragment.proofs.VarLemmas.{var-known}
use Rattle.pattern_unify.proofs.reaching.may_change.Goals as goal

pub value-requires : goal.value-requires
value-requires c = var-known c.args.heap.now c.args.node.index c.in-Var.v c.is_sound.ensures (c.view.ensures ∙ ap Some c.in-Var.is)

pub is_leaf-requires : goal.is_leaf-requires
is_leaf-requires c = (parts-there c.args.heap.now c.args.node.index (App c.in-App.head c.in-App.args) c.is_sound.ensures (c.view.ensures ∙ ap Some c.in-App.is)).0
