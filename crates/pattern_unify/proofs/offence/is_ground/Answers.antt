use Rattle.std.proofs.Common.{◌≡◌, ◌∙◌, sym, ap, true, subst}
use Rattle.level_terms.specs.GroundNormal.{is_ground_normal}
use Rattle.level_terms.proofs.GroundLemmas.{ground_normal-term}
use Rattle.level_terms.proofs.ReadLemmas.{valid-below}
use Rattle.beta_fragment.specs.Names.{names}
use Rattle.pattern_unify.proofs.offence.is_ground.Goals as goal

pub is_ground_normal-requires : goal.is_ground_normal-requires
is_ground_normal-requires c = valid-below c.args.heap.now c.settled-node.result.index c.args.depth c.settled-node.ensures.valid

pub returns : goal.returns
returns c = λ e. ap is_ground_normal (sym c.settled-node.ensures.reads) ∙ ground_normal-term c.args.heap.now c.settled-node.result.index names (sym c.is_ground_normal.ensures ∙ e) (λ i. tt)
