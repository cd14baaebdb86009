use Rattle.level_terms.proofs.ValidLemmas.{nodes_valid, valid_deeper, growth_keeps_valid}
use Rattle.level_terms.proofs.laws.law_validity.Goals as goal

pub returns-clause-parts : goal.returns-clause-parts
returns-clause-parts c = nodes_valid

pub returns-clause-deeper : goal.returns-clause-deeper
returns-clause-deeper c = valid_deeper

pub returns-clause-kept : goal.returns-clause-kept
returns-clause-kept c = growth_keeps_valid
