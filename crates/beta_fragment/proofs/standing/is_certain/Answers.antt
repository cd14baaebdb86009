use Rattle.std.proofs.Common.{◌∙◌, ap, Some, subst, sym}
use Rattle.beta_fragment.specs.Names.{names}
use Rattle.beta_fragment.specs.Body.{IsLam}
use Rattle.beta_fragment.proofs.EnterLemmas.{names-places}
use Rattle.level_terms.proofs.ReadLemmas.{valid-below}
use Rattle.beta_fragment.proofs.standing.is_certain.Goals as goal

pub view-requires : goal.view-requires
view-requires c = valid-below c.args.heap.now c.args.t.index c.args.depth c.requires

pub is_abstraction-requires : goal.is_abstraction-requires
is_abstraction-requires c = valid-below c.args.heap.now c.args.t.index c.args.depth c.requires

pub returns-in-Lam : goal.returns-in-Lam
returns-in-Lam c = λ q. record {
  node = subst IsLam (sym (c.view.ensures ∙ ap Some c.in-Lam.is)) tt;
  valid = c.requires;
  reads = c.is_abstraction.ensures q c.args.depth c.requires names names-places;
}
