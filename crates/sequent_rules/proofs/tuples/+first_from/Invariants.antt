use Rattle.std.proofs.Common.{◌≡◌, ◌-◌, take, drop}
use Rattle.ref_terms.specs.search.Branch.{Branch}
use Rattle.ref_terms.specs.search.Program.{Program, Rule}
use Rattle.sequent_rules.specs.Branches.{IsSeenAs}
use Rattle.sequent_rules.specs.inside.Scans.{IsScan}
use Rattle.sequent_rules.specs.inside.Tuples.{first_tried, going_on, picked_on}
use Rattle.sequent_rules.proofs.tuples.+first_from.Given as goal

abbrev pub decreases-first_from : goal.decreases-first_from
decreases-first_from g l = l.left

-- all is as it was, and the tuples that begin with the others up to here are refused
abbrev pub invariant-loop-i : goal.invariant-loop-i
invariant-loop-i g l = record {
  heap : l.heap ≡ l.fn.heap;
  entries : l.trail.entries ≡ l.fn.trail.entries;
  left : (p : Program) (r : Rule) (b : Branch) → IsScan g.R.Rules.stands l.fn.heap l.scan p r → IsSeenAs l.fn.heap l.scan.store.now b
      → first_tried b l.scan.rule r (going_on l.before l.left l.others) ≡ first_tried b l.scan.rule r (picked_on l.before (l.left - 1) (take l.i l.others) (drop l.i l.others));
}
