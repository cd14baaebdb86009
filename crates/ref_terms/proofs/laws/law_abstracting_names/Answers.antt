use Rattle.ref_terms.specs.lemmas.NameLemmas.{close-apply}
use Rattle.ref_terms.proofs.unification.ValueLemmas.{opened-close}
use Rattle.ref_terms.proofs.laws.law_abstracting_names.Goals as goal

pub returns-clause-abstracted : goal.returns-clause-abstracted
returns-clause-abstracted c = close-apply

pub returns-clause-applied : goal.returns-clause-applied
returns-clause-applied c = opened-close
