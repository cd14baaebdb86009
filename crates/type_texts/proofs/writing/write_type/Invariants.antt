use Rattle.std.proofs.Common.{ℕ, ◌∷◌, [], length, reverse}
use Rattle.type_graph.specs.Graph.{node_at}
use Rattle.type_texts.specs.declared.tasks.Task.TheVariants.{Node as NodeTask}
use Rattle.type_texts.specs.OpenTypes.{OpenType}
use Rattle.type_texts.specs.inside.Readings.{IsReading}
use Rattle.type_texts.specs.inside.Tasks.{Writes, AreWithin, tasks_weight}
use Rattle.type_texts.proofs.Readings.{open_at}
use Rattle.type_texts.proofs.writing.write_type.Given as goal

abbrev pub invariant-loop-task : goal.invariant-loop-task
invariant-loop-task l = record {
  within : AreWithin (length l.graph) (reverse l.tasks.items);
  writes : (u : ℕ → OpenType) → IsReading (node_at l.graph) u
      → Writes l.symbols u l.fn.variables.keys l.fn.text.items (NodeTask l.node ∷ []) l.variables.keys l.text.items (reverse l.tasks.items);
}

abbrev pub decreases-loop-task : goal.decreases-loop-task
decreases-loop-task l = tasks_weight (open_at l.graph) l.tasks.items
