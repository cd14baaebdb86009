use Rattle.std.proofs.Common.{ap, ◌∙◌}
use Rattle.ref_terms.specs.terms.Ready.{ready}
use Rattle.ref_terms.specs.lemmas.ReadyFacts.{ready-name}
use Rattle.level_terms.proofs.ReadLemmas.{valid-below}
use Rattle.beta_fragment.proofs.opening.is_taken.Goals as goal

pub looked_at-requires : goal.looked_at-requires
looked_at-requires c = valid-below c.args.heap.now c.args.t.index c.args.depth c.requires

pub returns-in-Level : goal.returns-in-Level
returns-in-Level c = λ e. ap ready (c.in-Level.ensures c.args.depth c.requires).0 ∙ ready-name _
