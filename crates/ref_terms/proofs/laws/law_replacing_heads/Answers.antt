use Rattle.ref_terms.specs.lemmas.ComposeLemmas.{fill-fill, fill-apply, fill-lam}
use Rattle.ref_terms.proofs.laws.law_replacing_heads.Goals as goal

pub returns-clause-twice : goal.returns-clause-twice
returns-clause-twice c = fill-fill

pub returns-clause-applies : goal.returns-clause-applies
returns-clause-applies c = fill-apply

pub returns-clause-abstracts : goal.returns-clause-abstracts
returns-clause-abstracts c = fill-lam
