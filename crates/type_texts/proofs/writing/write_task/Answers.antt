use Rattle.std.proofs.Common.{◌∷◌, reverse, sym, subst}
use Rattle.type_texts.specs.declared.tasks.Task.{Task}
use Rattle.type_texts.specs.inside.Tasks.{Writes}
use Rattle.type_texts.proofs.writing.write_task.Goals as goal

pub returns-in_ok-write_node-in-Node-clause-writes : goal.returns-in_ok-write_node-in-Node-clause-writes
returns-in_ok-write_node-in-Node-clause-writes c = λ u reading.
    subst (λ (t : Task). Writes c.args.symbols.now u c.args.variables.now.keys c.args.text.now.items (t ∷ reverse c.args.tasks.now.items) c.write_node.new.variables.keys c.write_node.new.text.items (reverse c.write_node.new.tasks.items))
    (sym c.in-Node.is) (c.in_ok-write_node-in-Node.ensures.writes u reading)
