use Rattle.std.proofs.Common.{reverse}
use Rattle.level_terms.specs.Reading.{read}
use Rattle.beta_fragment.specs.Names.{renamed}
use Rattle.beta_fragment.specs.inside.Cells.{terms_of, Gains}
use Rattle.beta_fragment.specs.inside.Evaluation.{IsComing, done_terms, AreDone, work_size}
use Rattle.beta_fragment.proofs.evaluating.evaluated_node.Given as goal

abbrev pub invariant-loop-task : goal.invariant-loop-task
invariant-loop-task l = record {
  comes : IsComing l.heap (record { work = l.work.items; entries = l.entries.items; under = l.under; terms = done_terms (terms_of l.cells) l.done.items }) (read l.heap l.fn.node.index (renamed l.levels));
  there : AreDone l.heap (terms_of l.cells) (reverse l.done.items);
  gains : Gains (terms_of l.fn.cells) (terms_of l.cells);
}

abbrev pub decreases-loop-task : goal.decreases-loop-task
decreases-loop-task l = work_size l.heap (reverse l.work.items)
