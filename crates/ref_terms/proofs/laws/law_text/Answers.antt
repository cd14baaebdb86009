use Rattle.ref_terms.specs.lemmas.TextFacts.{text_built-apply, text_built-lam, fill-text_apply}
use Rattle.ref_terms.proofs.laws.law_text.Goals as goal

pub returns-clause-application : goal.returns-clause-application
returns-clause-application c = text_built-apply

pub returns-clause-abstraction : goal.returns-clause-abstraction
returns-clause-abstraction c = text_built-lam

pub returns-clause-rebuilt : goal.returns-clause-rebuilt
returns-clause-rebuilt c = fill-text_apply
