use Rattle.std.proofs.Common.{◌∙◌, ap, Some}
use Rattle.level_terms.proofs.ValidLemmas.{valid_deeper}
use Rattle.level_terms.proofs.MakeLemmas.{parts-there}
use Rattle.beta_fragment.proofs.VarLemmas.{var-known}
use Rattle.beta_fragment.proofs.StayLemmas.{lam-stays, var-stays, app-long}
use Rattle.beta_fragment.proofs.FirmLemmas.{low-other, other-level, other-app}
use Rattle.beta_fragment.proofs.glance.is_other.Goals as goal

pub var_depth-requires : goal.var_depth-requires
var_depth-requires c = var-known c.args.heap.now c.args.t.index c.in-Var.v c.is_sound.ensures (c.view.ensures ∙ ap Some c.in-Var.is)

pub is_plain-requires : goal.is_plain-requires
is_plain-requires c = (parts-there c.args.heap.now c.args.t.index _ c.is_sound.ensures (c.view.ensures ∙ ap Some c.in-App.is)).0

pub returns-in-Level : goal.returns-in-Level
returns-in-Level c = λ q s v. other-level c.args.heap.now c.args.t.index c.args.depth c.in-Level.l c.is_sound.ensures (c.view.ensures ∙ ap Some c.in-Level.is) (c.are_different.ensures q)

pub returns-then-made-depth : goal.returns-then-made-depth
returns-then-made-depth c = λ q s v. low-other c.args.heap.now c.args.t.index c.args.depth c.is_sound.ensures (valid_deeper c.args.heap.now c.args.t.index c.in-Lam.made c.args.depth (lam-stays c.args.heap.now c.args.t.index c.in-Lam.made c.in-Lam.body s c.is_sound.ensures (c.view.ensures ∙ ap Some c.in-Lam.is) v) c.if-made-depth.true)

pub returns-then-var_depth-depth : goal.returns-then-var_depth-depth
returns-then-var_depth-depth c = λ q s v. low-other c.args.heap.now c.args.t.index c.args.depth c.is_sound.ensures (valid_deeper c.args.heap.now c.args.t.index c.var_depth.result c.args.depth (var-stays c.args.heap.now c.args.t.index c.in-Var.v c.var_depth.result s c.is_sound.ensures (c.view.ensures ∙ ap Some c.in-Var.is) c.var_depth.ensures v) c.if-var_depth-depth.true)

pub returns-in-App : goal.returns-in-App
returns-in-App c = λ q s v. other-app c.args.heap.now c.args.t.index c.args.depth c.in-App.head _ c.is_sound.ensures (c.view.ensures ∙ ap Some c.in-App.is) (c.is_plain.ensures q) (app-long c.args.heap.now c.args.t.index c.in-App.head _ c.is_sound.ensures (c.view.ensures ∙ ap Some c.in-App.is))
