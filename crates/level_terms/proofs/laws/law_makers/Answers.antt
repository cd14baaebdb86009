use Rattle.level_terms.proofs.MakerLemmas.{makers_keep_readings}
use Rattle.level_terms.proofs.ValidLemmas.{growth_keeps_readings}
use Rattle.level_terms.proofs.laws.law_makers.Goals as goal

pub returns-clause-makers : goal.returns-clause-makers
returns-clause-makers c = makers_keep_readings

pub returns-clause-calls : goal.returns-clause-calls
returns-clause-calls c = growth_keeps_readings
