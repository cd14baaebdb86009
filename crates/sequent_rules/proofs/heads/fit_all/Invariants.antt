use Rattle.std.proofs.Common.{◌≡◌, ℕ, List, take, drop}
use Rattle.level_terms.specs.Gains.{GainsNodes}
use Rattle.ref_terms.specs.search.Program.{RuleHead}
use Rattle.ref_terms.specs.search.RuleMatch.{fit_heads}
use Rattle.sequent_rules.specs.Rules.{AreHeadShapes}
use Rattle.sequent_rules.specs.inside.Fitting.{AreArguments}
use Rattle.sequent_rules.specs.inside.Tuples.{tuple_in}
use Rattle.sequent_rules.proofs.heads.fit_all.Given as goal

-- the constraints up to here fit, and these are the arguments of their goals
abbrev pub invariant-loop-i : goal.invariant-loop-i
invariant-loop-i l = record {
  gains : GainsNodes l.fn.heap l.heap;
  args : AreArguments l.heap l.all.items (take l.i (tuple_in l.fn.heap l.store l.ids));
  left : (n : ℕ) (hs : List RuleHead) → AreHeadShapes n l.heads hs → fit_heads hs (tuple_in l.fn.heap l.store l.ids) ≡ fit_heads (drop l.i hs) (drop l.i (tuple_in l.fn.heap l.store l.ids));
}
