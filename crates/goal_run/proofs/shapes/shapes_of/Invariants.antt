use Rattle.std.proofs.Common.{ℕ, take}
use Rattle.level_terms.specs.Graph.{Graph}
use Rattle.ref_terms.specs.search.Program.{Program}
use Rattle.clause_compile.specs.Rules.{IsRulesCode}
use Rattle.goal_run.specs.inside.Shapes.{AreShapes}
use Rattle.goal_run.proofs.shapes.shapes_of.Given as goal

abbrev pub invariant-loop-rule : goal.invariant-loop-rule
invariant-loop-rule l = (n : ℕ) (g : Graph) (p : Program) → IsRulesCode n g l.rules p → AreShapes l.shapes.items (take l.rule p.rules)
