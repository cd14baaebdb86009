use Rattle.lp_resolve.specs.StaticRules.{breaches, first_breach}
use Rattle.lp_resolve.proofs.BreachLemmas.{first_of-none, first_of-first}
use Rattle.lp_resolve.proofs.laws.law_first_breach.Goals as goal

pub returns-clause-none : goal.returns-clause-none
unfolding first_breach
returns-clause-none c p = first_of-none (breaches p)

pub returns-clause-broken : goal.returns-clause-broken
unfolding first_breach
returns-clause-broken c p b e = (first_of-first (breaches p) b e).there

pub returns-clause-first : goal.returns-clause-first
unfolding first_breach
returns-clause-first c p b e = (first_of-first (breaches p) b e).least
