use Rattle.std.proofs.Common.{◌∙◌, ap, Some, []}
use Rattle.level_terms.proofs.GrowthLemmas.{grows-refl}
use Rattle.beta_fragment.proofs.StayLemmas.{lam-stays, var-stays, con-stays, int-stays, str-stays}
use Rattle.beta_fragment.proofs.VarLemmas.{var-known}
use Rattle.beta_fragment.proofs.renaming.visit.Goals as goal

pub visit_kept-requires-clause-valid : goal.visit_kept-requires-clause-valid
visit_kept-requires-clause-valid c = λ s v. lam-stays c.args.heap.now c.args.node.index c.in-Lam.depth c.in-Lam.body s c.is_sound.ensures (c.view.ensures ∙ ap Some c.in-Lam.is) v

pub returns-then-depth-stays-clause-grows : goal.returns-then-depth-stays-clause-grows
returns-then-depth-stays-clause-grows c = grows-refl c.args.heap.now []

pub var_depth-depth-requires : goal.var_depth-depth-requires
var_depth-depth-requires c = var-known c.args.heap.now c.args.node.index c.in-Var.v c.is_sound.ensures (c.view.ensures ∙ ap Some c.in-Var.is)

pub visit_kept-requires-then-depth-stays-2-clause-valid : goal.visit_kept-requires-then-depth-stays-2-clause-valid
visit_kept-requires-then-depth-stays-2-clause-valid c = λ s v. var-stays c.args.heap.now c.args.node.index c.in-Var.v c.var_depth-depth.result s c.is_sound.ensures (c.view.ensures ∙ ap Some c.in-Var.is) c.var_depth-depth.ensures v

pub returns-then-depth-stays-2-clause-grows : goal.returns-then-depth-stays-2-clause-grows
returns-then-depth-stays-2-clause-grows c = grows-refl c.args.heap.now []

pub visit_kept-requires-in-Con-clause-valid : goal.visit_kept-requires-in-Con-clause-valid
visit_kept-requires-in-Con-clause-valid c = λ s v. con-stays c.args.heap.now c.args.node.index _ c.is_sound.ensures (c.view.ensures ∙ ap Some c.in-Con.is)

pub visit_kept-requires-in-Int-clause-valid : goal.visit_kept-requires-in-Int-clause-valid
visit_kept-requires-in-Int-clause-valid c = λ s v. int-stays c.args.heap.now c.args.node.index _ c.is_sound.ensures (c.view.ensures ∙ ap Some c.in-Int.is)

pub visit_kept-requires-in-Str-clause-valid : goal.visit_kept-requires-in-Str-clause-valid
visit_kept-requires-in-Str-clause-valid c = λ s v. str-stays c.args.heap.now c.args.node.index _ c.is_sound.ensures (c.view.ensures ∙ ap Some c.in-Str.is)

pub returns-else-depth-stays-clause-grows : goal.returns-else-depth-stays-clause-grows
returns-else-depth-stays-clause-grows c = grows-refl c.args.heap.now []

pub returns-in-App-clause-grows : goal.returns-in-App-clause-grows
returns-in-App-clause-grows c = grows-refl c.args.heap.now []

pub returns-in-Con-clause-grows : goal.returns-in-Con-clause-grows
returns-in-Con-clause-grows c = grows-refl c.args.heap.now []

pub returns-in-Int-clause-grows : goal.returns-in-Int-clause-grows
returns-in-Int-clause-grows c = grows-refl c.args.heap.now []

pub returns-in-Str-clause-grows : goal.returns-in-Str-clause-grows
returns-in-Str-clause-grows c = grows-refl c.args.heap.now []
