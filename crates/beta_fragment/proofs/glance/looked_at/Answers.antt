use Rattle.std.proofs.Common.{◌∙◌, ap, sym, refl, arith, Some, slice_index}
use Rattle.level_terms.specs.Reading.{read}
use Rattle.beta_fragment.proofs.StayLemmas.{var-low}
use Rattle.beta_fragment.specs.Names.{names}
use Rattle.ref_terms.specs.terms.Ready.{ready}
use Rattle.level_terms.proofs.TreeLemmas.{value_below}
use Rattle.level_terms.proofs.ReadLemmas.{valid-below}
use Rattle.beta_fragment.proofs.EnterLemmas.{names-places}
use Rattle.beta_fragment.proofs.VarLemmas.{var-known}
use Rattle.beta_fragment.proofs.FirmLemmas.{reads-value, var-unready, readiness-before}
use Rattle.beta_fragment.proofs.glance.looked_at.Goals as goal

pub value-requires : goal.value-requires
value-requires c = var-known c.args.heap.now c.loop-v.node.index c.in-Var.v c.is_sound.ensures (c.view.ensures ∙ ap Some c.in-Var.is)

pub loop-v-smaller : goal.loop-v-smaller
loop-v-smaller c = value_below c.args.heap.now c.is_sound.ensures c.loop-v.node.index c.in-Var.v.index c.in-Some.value.index c.in-Var.v refl (c.view.ensures ∙ ap Some c.in-Var.is) (sym c.in-Some.ensures.value)

pub loop-v-preserved : goal.loop-v-preserved
loop-v-preserved c = record {
  there = valid-below c.args.heap.now c.in-Some.value.index (slice_index c.args.heap.now.depths c.in-Var.v.index) c.in-Some.ensures.valid;
  valid = λ s v.
      let before = c.loop-v.invariant.valid s v in
      let deep = var-low c.args.heap.now c.loop-v.node.index c.in-Var.v before.0 c.is_sound.ensures (c.view.ensures ∙ ap Some c.in-Var.is) before.2 in
      let less = before.1 in
      (slice_index c.args.heap.now.depths c.in-Var.v.index, omega (arith, deep, less), c.in-Some.ensures.valid);
  same = c.loop-v.invariant.same ∙ reads-value c.args.heap.now c.loop-v.node.index c.in-Some.value.index c.in-Var.v c.is_sound.ensures (c.view.ensures ∙ ap Some c.in-Var.is) (sym c.in-Some.ensures.value) names names-places;
}

pub returns-in-None : goal.returns-in-None
returns-in-None c = λ s v. ap ready c.loop-v.invariant.same ∙ var-unready c.args.heap.now c.loop-v.node.index c.in-Var.v c.is_sound.ensures (c.view.ensures ∙ ap Some c.in-Var.is) (sym c.in-None.ensures.value) names names-places

pub loop-v-init : goal.loop-v-init
loop-v-init c = record {
  there = c.requires;
  valid = λ s v. (s, omega arith, v);
  same = refl;
}

pub returns : goal.returns
returns c = λ s v.
    let before = c.loop-v.invariant.valid s v in
    readiness-before c.args.heap.now (read c.args.heap.now c.args.t.index names) (read c.args.heap.now c.loop-v.node.index names) before.0 s c.looked_at_end.result c.loop-v.invariant.same before.1 (c.looked_at_end.ensures before.0 before.2)
