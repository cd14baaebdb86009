use Rattle.ref_terms.specs.lemmas.FillLemmas.{built-apply, built-lam, built-fill}
use Rattle.ref_terms.specs.lemmas.OccursLemmas.{fill_at}
use Rattle.ref_terms.proofs.laws.law_built.Goals as goal

pub returns-clause-application : goal.returns-clause-application
returns-clause-application c = built-apply

pub returns-clause-abstraction : goal.returns-clause-abstraction
returns-clause-abstraction c = built-lam

pub returns-clause-replacing : goal.returns-clause-replacing
returns-clause-replacing c = built-fill

pub returns-clause-again : goal.returns-clause-again
returns-clause-again c = fill_at
