use Rattle.std.proofs.Common.{◌∙◌, ap, subst, Some, []}
use Rattle.level_terms.proofs.GrowthLemmas.{grows-refl}
use Rattle.beta_fragment.specs.inside.Settled.{HasPlainHead}
use Rattle.beta_fragment.proofs.StayLemmas.{lam-stays, var-stays, con-stays, int-stays, str-stays}
use Rattle.beta_fragment.proofs.VarLemmas.{var-known}
use Rattle.beta_fragment.proofs.putting.put_at.Goals as goal

pub put_kept-requires-clause-valid : goal.put_kept-requires-clause-valid
put_kept-requires-clause-valid c = λ s v. lam-stays c.args.heap.now c.args.node.index c.in-Lam.depth c.in-Lam.body s c.is_sound.ensures (c.view.ensures ∙ ap Some c.in-Lam.is) v

pub returns-then-depth-level-clause-grows : goal.returns-then-depth-level-clause-grows
returns-then-depth-level-clause-grows c = grows-refl c.args.heap.now []

pub var_depth-depth-requires : goal.var_depth-depth-requires
var_depth-depth-requires c = var-known c.args.heap.now c.args.node.index c.in-Var.v c.is_sound.ensures (c.view.ensures ∙ ap Some c.in-Var.is)

pub put_kept-requires-then-depth-level-2-clause-valid : goal.put_kept-requires-then-depth-level-2-clause-valid
put_kept-requires-then-depth-level-2-clause-valid c = λ s v. var-stays c.args.heap.now c.args.node.index c.in-Var.v c.var_depth-depth.result s c.is_sound.ensures (c.view.ensures ∙ ap Some c.in-Var.is) c.var_depth-depth.ensures v

pub returns-then-depth-level-2-clause-grows : goal.returns-then-depth-level-2-clause-grows
returns-then-depth-level-2-clause-grows c = grows-refl c.args.heap.now []

pub put_kept-requires-in-Con-clause-valid : goal.put_kept-requires-in-Con-clause-valid
put_kept-requires-in-Con-clause-valid c = λ s v. con-stays c.args.heap.now c.args.node.index _ c.is_sound.ensures (c.view.ensures ∙ ap Some c.in-Con.is)

pub put_kept-requires-in-Int-clause-valid : goal.put_kept-requires-in-Int-clause-valid
put_kept-requires-in-Int-clause-valid c = λ s v. int-stays c.args.heap.now c.args.node.index _ c.is_sound.ensures (c.view.ensures ∙ ap Some c.in-Int.is)

pub put_kept-requires-in-Str-clause-valid : goal.put_kept-requires-in-Str-clause-valid
put_kept-requires-in-Str-clause-valid c = λ s v. str-stays c.args.heap.now c.args.node.index _ c.is_sound.ensures (c.view.ensures ∙ ap Some c.in-Str.is)

pub returns-else-depth-level-clause-grows : goal.returns-else-depth-level-clause-grows
returns-else-depth-level-clause-grows c = grows-refl c.args.heap.now []

pub put_at_app-requires-clause-plain : goal.put_at_app-requires-clause-plain
put_at_app-requires-clause-plain c = λ e. subst (HasPlainHead c.args.heap.now) (c.view.ensures ∙ ap Some c.in-App.is) (c.requires.plain e)

pub returns-in-App-clause-grows : goal.returns-in-App-clause-grows
returns-in-App-clause-grows c = grows-refl c.args.heap.now []

pub returns-in-Con-clause-grows : goal.returns-in-Con-clause-grows
returns-in-Con-clause-grows c = grows-refl c.args.heap.now []

pub returns-in-Int-clause-grows : goal.returns-in-Int-clause-grows
returns-in-Int-clause-grows c = grows-refl c.args.heap.now []

pub returns-in-Str-clause-grows : goal.returns-in-Str-clause-grows
returns-in-Str-clause-grows c = grows-refl c.args.heap.now []
