use Rattle.ref_terms.specs.lemmas.OccursLemmas.{inst_absent}
use Rattle.ref_terms.proofs.laws.law_absent_variable.Goals as goal

pub returns : goal.returns
returns c = inst_absent
