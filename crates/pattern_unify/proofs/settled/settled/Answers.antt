use Rattle.std.proofs.Common.{◌∙◌, ap, Some, sym}
use Rattle.level_terms.proofs.ReadLemmas.{valid-below}
use Rattle.beta_fragment.proofs.VarLemmas.{var-known}
use Rattle.beta_fragment.proofs.PairLemmas.{value-of-var}
use Rattle.pattern_unify.proofs.settled.settled.Goals as goal

pub view-requires : goal.view-requires
view-requires c = valid-below c.args.heap.now c.args.t.index c.args.depth c.requires

pub value-requires : goal.value-requires
value-requires c = var-known c.args.heap.now c.args.t.index c.in-Var.v c.is_sound.ensures (c.view.ensures ∙ ap Some c.in-Var.is)

pub returns-in-Some-clause-reads : goal.returns-in-Some-clause-reads
returns-in-Some-clause-reads c =
    sym (value-of-var c.args.heap.now c.args.t.index c.in-Some.value.index c.in-Var.v c.is_sound.ensures (c.view.ensures ∙ ap Some c.in-Var.is) (sym c.in-Some.ensures.value)).reads

pub returns-in-Some-clause-valid : goal.returns-in-Some-clause-valid
returns-in-Some-clause-valid c =
    (value-of-var c.args.heap.now c.args.t.index c.in-Some.value.index c.in-Var.v c.is_sound.ensures (c.view.ensures ∙ ap Some c.in-Var.is) (sym c.in-Some.ensures.value)).valid c.args.depth c.requires
