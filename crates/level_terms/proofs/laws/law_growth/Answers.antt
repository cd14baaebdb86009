use Rattle.level_terms.proofs.GrowthLemmas as lemmas
use Rattle.level_terms.proofs.laws.law_growth.Goals as goal

pub returns-clause-reflexive : goal.returns-clause-reflexive
returns-clause-reflexive c = lemmas.grows-refl

pub returns-clause-transitive : goal.returns-clause-transitive
returns-clause-transitive c = lemmas.grows-trans

pub returns-clause-without_notes : goal.returns-clause-without_notes
returns-clause-without_notes c = lemmas.grows-notes

pub returns-clause-trail : goal.returns-clause-trail
returns-clause-trail c = lemmas.keeps_trail
