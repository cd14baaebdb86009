use Rattle.std.proofs.Common.{Some, ap, ◌∙◌}
use Rattle.std.proofs.lemmas.Result.{IfOk-weaker}
use Rattle.level_terms.proofs.ReadLemmas.{valid-below}
use Rattle.beta_fragment.proofs.StayLemmas.{lam-stays}
use Rattle.beta_fragment.proofs.HeadLemmas.{lam-within}
use Rattle.beta_fragment.proofs.OpenLemmas.{contract-reads, same-body}
use Rattle.beta_fragment.proofs.opening.contract.Goals as goal

pub view-requires : goal.view-requires
view-requires c = valid-below c.args.heap.now c.args.lam.index c.args.depth c.requires.valid

pub looked_at-requires : goal.looked_at-requires
looked_at-requires c = valid-below c.args.heap.now c.args.arg.index c.args.depth c.requires.argument

pub opened-requires-clause-valid : goal.opened-requires-clause-valid
opened-requires-clause-valid c = lam-stays c.args.heap.now c.args.lam.index c.in-Lam.made c.in-Lam.body c.args.depth c.is_sound.ensures (c.view.ensures ∙ ap Some c.in-Lam.is) c.requires.valid

pub opened-requires-clause-low : goal.opened-requires-clause-low
opened-requires-clause-low c = lam-within c.args.heap.now c.args.lam.index c.in-Lam.made c.in-Lam.body c.args.depth c.is_sound.ensures (c.view.ensures ∙ ap Some c.in-Lam.is) c.requires.valid

pub returns-in-Level-clause-reads : goal.returns-in-Level-clause-reads
returns-in-Level-clause-reads c = IfOk-weaker c.opened.result _ _
    (λ r e d body here. e ∙ contract-reads c.args.heap.now c.args.lam.index c.in-Lam.made d c.in-Lam.body body c.in-Level.k _ c.is_sound.ensures (c.view.ensures ∙ ap Some c.in-Lam.is) here (c.in-Level.ensures c.args.depth c.requires.argument).0)
    c.opened.ensures.reads

pub filled-requires : goal.filled-requires
filled-requires c = record {
  here = c.view.ensures ∙ ap Some c.in-Lam.is;
  valid = lam-stays c.args.heap.now c.args.lam.index c.in-Lam.made c.in-Lam.body c.args.depth c.is_sound.ensures (c.view.ensures ∙ ap Some c.in-Lam.is) c.requires.valid;
  low = lam-within c.args.heap.now c.args.lam.index c.in-Lam.made c.in-Lam.body c.args.depth c.is_sound.ensures (c.view.ensures ∙ ap Some c.in-Lam.is) c.requires.valid;
  argument = c.requires.argument;
}

pub returns-in_default-looked_at-clause-reads : goal.returns-in_default-looked_at-clause-reads
returns-in_default-looked_at-clause-reads c = IfOk-weaker c.filled.result _ _
    (λ r e d body here. e ∙ same-body c.args.heap.now c.args.lam.index c.in-Lam.made d c.in-Lam.body body _ (c.view.ensures ∙ ap Some c.in-Lam.is) here)
    c.filled.ensures.reads
