use Rattle.std.proofs.Common.{◌∙◌, ap, sym, Some, slice_index}
use Rattle.level_terms.proofs.ReadLemmas.{valid-below}
use Rattle.beta_fragment.specs.Names.{names}
use Rattle.beta_fragment.proofs.EnterLemmas.{names-places}
use Rattle.beta_fragment.proofs.VarLemmas.{var-known}
use Rattle.beta_fragment.proofs.FirmLemmas.{reads-value}
use Rattle.clause_key.proofs.glance.followed.Goals as goal

pub value-requires : goal.value-requires
value-requires c = var-known c.args.heap.now c.args.t.index c.in-Var.v c.is_sound.ensures (c.view.ensures ∙ ap Some c.in-Var.is)

pub returns-in-Some-clause-there : goal.returns-in-Some-clause-there
returns-in-Some-clause-there c = valid-below c.args.heap.now c.in-Some.value.index (slice_index c.args.heap.now.depths c.in-Var.v.index) c.in-Some.ensures.valid

pub returns-in-Some-clause-same : goal.returns-in-Some-clause-same
returns-in-Some-clause-same c = reads-value c.args.heap.now c.args.t.index c.in-Some.value.index c.in-Var.v c.is_sound.ensures (c.view.ensures ∙ ap Some c.in-Var.is) (sym c.in-Some.ensures.value) names names-places
