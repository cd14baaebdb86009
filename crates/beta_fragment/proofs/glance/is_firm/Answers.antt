use Rattle.std.proofs.Common.{◌∙◌, ap, refl, sym, Some, slice_index}
use Rattle.level_terms.specs.declared.node.Node.TheVariants.{Lam}
use Rattle.level_terms.proofs.MakeLemmas.{parts-there}
use Rattle.level_terms.proofs.TreeLemmas.{value_below}
use Rattle.level_terms.proofs.ReadLemmas.{valid-below}
use Rattle.beta_fragment.proofs.VarLemmas.{var-known}
use Rattle.beta_fragment.proofs.FirmLemmas.{lam-firm, var-firm, value-firm, body-smaller}
use Rattle.beta_fragment.proofs.glance.is_firm.Goals as goal

pub loop-body-smaller-in-Lam : goal.loop-body-smaller-in-Lam
loop-body-smaller-in-Lam c = body-smaller c.args.heap.now c.loop-body.node.index c.in-Lam.depth c.in-Lam.body c.is_sound.ensures (c.view.ensures ∙ ap Some c.in-Lam.is)

pub loop-body-preserved-in-Lam : goal.loop-body-preserved-in-Lam
loop-body-preserved-in-Lam c = record {
  there = (parts-there c.args.heap.now c.loop-body.node.index (Lam c.in-Lam.depth c.in-Lam.body) c.is_sound.ensures (c.view.ensures ∙ ap Some c.in-Lam.is)).0;
  leads = λ w. c.loop-body.invariant.leads (lam-firm c.args.heap.now c.loop-body.node.index c.in-Lam.depth c.in-Lam.body c.is_sound.ensures (c.view.ensures ∙ ap Some c.in-Lam.is) w);
}

pub value-requires : goal.value-requires
value-requires c = var-known c.args.heap.now c.loop-body.node.index c.in-Var.v c.is_sound.ensures (c.view.ensures ∙ ap Some c.in-Var.is)

pub loop-body-smaller : goal.loop-body-smaller
loop-body-smaller c = value_below c.args.heap.now c.is_sound.ensures c.loop-body.node.index c.in-Var.v.index c.in-Some.value.index c.in-Var.v refl (c.view.ensures ∙ ap Some c.in-Var.is) (sym c.in-Some.ensures.value)

pub loop-body-preserved : goal.loop-body-preserved
loop-body-preserved c = record {
  there = valid-below c.args.heap.now c.in-Some.value.index (slice_index c.args.heap.now.depths c.in-Var.v.index) c.in-Some.ensures.valid;
  leads = λ w. c.loop-body.invariant.leads (value-firm c.args.heap.now c.loop-body.node.index c.in-Some.value.index c.in-Var.v c.is_sound.ensures (c.view.ensures ∙ ap Some c.in-Var.is) (sym c.in-Some.ensures.value) w);
}

pub returns-in-None : goal.returns-in-None
returns-in-None c = λ _. c.loop-body.invariant.leads (var-firm c.args.heap.now c.loop-body.node.index c.in-Var.v c.is_sound.ensures (c.view.ensures ∙ ap Some c.in-Var.is) (sym c.in-None.ensures.value))
