use Rattle.std.proofs.Common.{◌∙◌, ap, Some, List, sym}
use Rattle.level_terms.specs.declared.node.TermId.{TermId}
use Rattle.level_terms.specs.declared.node.Node.TheVariants.{App}
use Rattle.beta_fragment.proofs.VarLemmas.{var-known}
use Rattle.pattern_unify.proofs.filling.visit.Goals as goal

pub visit_var-requires-clause-known : goal.visit_var-requires-clause-known
visit_var-requires-clause-known c = var-known c.args.heap.now c.args.node.index c.in-Var.v c.is_sound.ensures (c.view.ensures ∙ ap Some c.in-Var.is)
