use Rattle.std.proofs.Common.{◌≡◌, drop}
use Rattle.std.specs.List.{list_all}
use Rattle.level_terms.specs.Gains.{GainsNodes}
use Rattle.beta_fragment.specs.HeadForm.{all_read}
use Rattle.ref_terms.specs.search.RuleTest.{holds}
use Rattle.sequent_rules.proofs.testing.all_hold.Given as goal

-- the tests that are left decide
abbrev pub invariant-loop-i : goal.invariant-loop-i
invariant-loop-i l = record {
  gains : GainsNodes l.fn.heap l.heap;
  left : list_all holds (all_read l.fn.heap l.tests) ≡ list_all holds (drop l.i (all_read l.fn.heap l.tests));
}
