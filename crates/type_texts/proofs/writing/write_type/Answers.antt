use Rattle.std.proofs.Common.{◌≡◌, ◌∙◌, ◌<◌, List, [], ◌∷◌, ◌++◌, length, reverse, All, sym, subst, ap, arith}
use Rattle.std.proofs.lemmas.List.Elements.{All-nil, All-cons, All-head, All-tail}
use Rattle.type_texts.specs.declared.tasks.Task.{Task}
use Rattle.type_texts.specs.declared.tasks.Task.TheVariants.{Node as NodeTask}
use Rattle.type_texts.specs.inside.Tasks.{IsTaskWithin, Writes, total_weight}
use Rattle.type_texts.proofs.Readings.{open_at, open-reading}
use Rattle.type_texts.proofs.Steps.{emptied, popped, writes-none, writes-on}
use Rattle.type_texts.proofs.writing.write_type.Goals as goal

pub loop-task-init : goal.loop-task-init
loop-task-init c =
    let one : NodeTask c.args.node ∷ [] ≡ reverse c.push.new.self.items = sym (ap reverse (c.in_ok-push.ensures.items ∙ ap (λ (ts : List Task). ts ++ NodeTask c.args.node ∷ []) c.new-tasks.ensures.items)) in
    record {
      within = subst (All (IsTaskWithin (length c.args.graph.now))) one (All-cons (IsTaskWithin (length c.args.graph.now)) (NodeTask c.args.node) [] c.requires (All-nil (IsTaskWithin (length c.args.graph.now))));
      writes = λ u reading. subst (Writes c.args.symbols.now u c.args.variables.now.keys c.args.text.now.items (NodeTask c.args.node ∷ []) c.args.variables.now.keys c.args.text.now.items) one
          (writes-none c.args.symbols.now u c.args.variables.now.keys c.args.text.now.items (NodeTask c.args.node ∷ []));
    }

pub write_task-requires-clause-within : goal.write_task-requires-clause-within
write_task-requires-clause-within c =
    let n = length c.args.graph.now in
    let e = popped c.loop-task.tasks.items c.pop.new.self.items c.in-Some.task c.in-Some.ensures.items in
    All-tail (IsTaskWithin n) c.in-Some.task (reverse c.pop.new.self.items) (subst (All (IsTaskWithin n)) e c.loop-task.invariant.within)

pub write_task-requires-clause-task : goal.write_task-requires-clause-task
write_task-requires-clause-task c =
    let n = length c.args.graph.now in
    let e = popped c.loop-task.tasks.items c.pop.new.self.items c.in-Some.task c.in-Some.ensures.items in
    All-head (IsTaskWithin n) c.in-Some.task (reverse c.pop.new.self.items) (subst (All (IsTaskWithin n)) e c.loop-task.invariant.within)

pub loop-task-smaller : goal.loop-task-smaller
loop-task-smaller c =
    let g = c.args.graph.now in
    let u = open_at g in
    let e = popped c.loop-task.tasks.items c.pop.new.self.items c.in-Some.task c.in-Some.ensures.items in
    let P : List Task → Type 0 = λ ts. total_weight u (reverse c.write_task.new.tasks.items) < total_weight u ts in
    subst P (sym e) (c.in_ok-write_task.ensures.fewer u (open-reading g c.len-count.ensures.sound c.len-count.ensures.acyclic))

pub loop-task-preserved : goal.loop-task-preserved
loop-task-preserved c =
    let e = popped c.loop-task.tasks.items c.pop.new.self.items c.in-Some.task c.in-Some.ensures.items in
    record {
      within = c.in_ok-write_task.ensures.within;
      writes = λ u reading.
          writes-on c.args.symbols.now u c.args.variables.now.keys c.loop-task.variables.keys c.write_task.new.variables.keys
          c.args.text.now.items c.loop-task.text.items c.write_task.new.text.items
          (NodeTask c.args.node ∷ []) (reverse c.loop-task.tasks.items) (reverse c.write_task.new.tasks.items)
          (c.loop-task.invariant.writes u reading)
          (subst (λ (ts : List Task). Writes c.args.symbols.now u c.loop-task.variables.keys c.loop-task.text.items ts c.write_task.new.variables.keys c.write_task.new.text.items (reverse c.write_task.new.tasks.items)) (sym e)
          (c.in_ok-write_task.ensures.writes u reading));
    }

pub returns : goal.returns
returns c = λ u reading.
    let none : reverse c.loop-task.tasks.items ≡ [] = ap reverse (emptied c.loop-task.tasks.items (omega (arith, c.loop-task.tasks.ok, c.in_default.ensures.cases.0))) in
    subst (Writes c.args.symbols.now u c.args.variables.now.keys c.args.text.now.items (NodeTask c.args.node ∷ []) c.loop-task.variables.keys c.loop-task.text.items) none
    (c.loop-task.invariant.writes u reading)
