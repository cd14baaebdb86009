use Rattle.std.proofs.Common.{◌≡◌, drop}
use Rattle.ref_terms.specs.unification.Unification.{unify}
use Rattle.ref_terms.specs.search.Branch.{Branch}
use Rattle.ref_terms.specs.search.FirstRule.{first_firing}
use Rattle.ref_terms.specs.search.Program.{Program}
use Rattle.sequent_rules.specs.Branches.{IsSeenAs}
use Rattle.sequent_rules.specs.Instances.{first_of}
use Rattle.sequent_rules.specs.Rules.{StandsIn}
use Rattle.sequent_rules.proofs.search.next_rule.Given as goal

-- all is as it was, and the tuples of the rules up to here are refused
abbrev pub invariant-loop-rule : goal.invariant-loop-rule
invariant-loop-rule g l = record {
  heap : l.heap ≡ l.fn.heap;
  entries : l.trail.entries ≡ l.fn.trail.entries;
  left : (p : Program) (b : Branch) → StandsIn g.R.Rules.stands l.fn.heap l.rules p → IsSeenAs l.fn.heap l.store b → first_of p.rules b ≡ first_firing unify b l.rule (drop l.rule p.rules);
}
