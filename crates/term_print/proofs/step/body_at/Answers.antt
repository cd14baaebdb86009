use Rattle.std.proofs.Common.{[], ap, ◌∙◌}
use Rattle.ref_terms.specs.terms.Term.{Term}
use Rattle.ref_terms.specs.terms.Apply.{apply}
use Rattle.level_terms.proofs.GrowthLemmas.{grows-refl}
use Rattle.beta_fragment.specs.Names.{names}
use Rattle.level_terms.proofs.ReadLemmas.{valid-below}
use Rattle.term_print.proofs.LookLemmas.{applied-name}
use Rattle.term_print.proofs.step.body_at.Goals as goal

pub view-requires : goal.view-requires
view-requires c = valid-below c.args.heap.now c.args.lam.index c.args.depth c.requires.lam.valid

pub returns-then-made-depth-clause-reads : goal.returns-then-made-depth-clause-reads
returns-then-made-depth-clause-reads c = λ b e. c.enter.ensures.reads ∙ ap (λ (f : Term). apply f (names c.args.depth)) e ∙ applied-name b c.args.depth

pub returns-then-made-depth-clause-grows : goal.returns-then-made-depth-clause-grows
returns-then-made-depth-clause-grows c = grows-refl c.args.heap.now []
