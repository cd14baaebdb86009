use Rattle.std.proofs.Common.{◌<◌, List, ℕ, reverse, sym, subst, arith}
use Rattle.level_terms.specs.Reading.{read}
use Rattle.beta_fragment.specs.Names.{renamed}
use Rattle.beta_fragment.specs.inside.Cells.{terms_of}
use Rattle.beta_fragment.specs.declared.evaluating.Task.{Task}
use Rattle.beta_fragment.specs.inside.Evaluation.{Comes, IsComing, work_size, done_terms, AreDone}
use Rattle.beta_fragment.proofs.CellLemmas.{gains-refl, gains-trans}
use Rattle.beta_fragment.proofs.SplitLemmas.{empty-list}
use Rattle.beta_fragment.proofs.EvaluationLemmas.{first-comes, comes-ready, comes-some, comes-last, done-last}
use Rattle.beta_fragment.proofs.evaluating.evaluated_node.Goals as goal

pub returns-in_err-entries-clause-gains : goal.returns-in_err-entries-clause-gains
returns-in_err-entries-clause-gains c = gains-refl (terms_of c.args.cells.now)

pub returns-in_err-work-clause-gains : goal.returns-in_err-work-clause-gains
returns-in_err-work-clause-gains c = gains-refl (terms_of c.args.cells.now)

pub loop-task-init : goal.loop-task-init
loop-task-init c = record {
  comes = first-comes c.args.heap.now c.args.node c.args.levels.now (terms_of c.args.cells.now) c.in_ok-work.work.items c.in_ok-entries.entries.items c.new-done.result.items c.in_ok-work.ensures c.in_ok-entries.ensures c.new-done.ensures.items c.requires;
  there = subst (λ (is : List ℕ). AreDone c.args.heap.now (terms_of c.args.cells.now) (reverse is)) (sym c.new-done.ensures.items) tt;
  gains = gains-refl (terms_of c.args.cells.now);
}

pub step-requires-clause-ready : goal.step-requires-clause-ready
step-requires-clause-ready c =
    comes-ready c.args.heap.now c.in-Some.task c.pop.new.self.items c.loop-task.entries.items c.loop-task.under (terms_of c.loop-task.cells) c.loop-task.done.items (read c.args.heap.now c.args.node.index (renamed c.args.levels.now))
    (subst (λ (ws : List Task). IsComing c.args.heap.now (record { work = ws; entries = c.loop-task.entries.items; under = c.loop-task.under; terms = done_terms (terms_of c.loop-task.cells) c.loop-task.done.items }) (read c.args.heap.now c.args.node.index (renamed c.args.levels.now))) c.in-Some.ensures.items c.loop-task.invariant.comes)

pub step-requires-clause-done : goal.step-requires-clause-done
step-requires-clause-done c = c.loop-task.invariant.there

pub loop-task-smaller : goal.loop-task-smaller
loop-task-smaller c =
    subst (λ (ws : List Task). work_size c.args.heap.now (reverse c.step.new.work.items) < work_size c.args.heap.now (reverse ws)) (sym c.in-Some.ensures.items) c.in_ok-step.ensures.steps.falls

pub loop-task-preserved : goal.loop-task-preserved
loop-task-preserved c = record {
  comes =
      c.in_ok-step.ensures.steps.comes (read c.args.heap.now c.args.node.index (renamed c.args.levels.now))
      (subst (λ (ws : List Task). IsComing c.args.heap.now (record { work = ws; entries = c.loop-task.entries.items; under = c.loop-task.under; terms = done_terms (terms_of c.loop-task.cells) c.loop-task.done.items }) (read c.args.heap.now c.args.node.index (renamed c.args.levels.now))) c.in-Some.ensures.items c.loop-task.invariant.comes);
  there = c.in_ok-step.ensures.done;
  gains = gains-trans (terms_of c.args.cells.now) (terms_of c.loop-task.cells) (terms_of c.step.new.cells) c.loop-task.invariant.gains c.in_ok-step.ensures.gains;
}

pub returns-in_err-step-clause-gains : goal.returns-in_err-step-clause-gains
returns-in_err-step-clause-gains c = gains-trans (terms_of c.args.cells.now) (terms_of c.loop-task.cells) (terms_of c.step.new.cells) c.loop-task.invariant.gains c.step.ensures.gains

pub unreachable-requires : goal.unreachable-requires
unreachable-requires c =
    let no_work = empty-list c.loop-task.work.items (omega (arith, c.loop-task.work.ok, c.in_default.ensures.cases.0)) in
    let none = empty-list c.loop-task.done.items (omega (arith, c.loop-task.done.ok, c.in-None.ensures.cases.0)) in
    comes-some c.args.heap.now c.loop-task.entries.items c.loop-task.under (terms_of c.loop-task.cells) c.loop-task.done.items (read c.args.heap.now c.args.node.index (renamed c.args.levels.now)) none
    (subst (λ (ws : List Task). Comes c.args.heap.now (reverse ws) c.loop-task.entries.items c.loop-task.under (done_terms (terms_of c.loop-task.cells) c.loop-task.done.items) (read c.args.heap.now c.args.node.index (renamed c.args.levels.now))) no_work c.loop-task.invariant.comes)

pub returns-clause-reads : goal.returns-clause-reads
returns-clause-reads c =
    let no_work = empty-list c.loop-task.work.items (omega (arith, c.loop-task.work.ok, c.in_default.ensures.cases.0)) in
    record {
      there = (done-last c.args.heap.now (terms_of c.loop-task.cells) c.loop-task.done.items c.pop-2.new.self.items c.in-Some-pop.r c.in-Some-pop.ensures.items c.loop-task.invariant.there).0;
      term =
          comes-last c.args.heap.now c.loop-task.entries.items c.loop-task.under (terms_of c.loop-task.cells) c.loop-task.done.items c.pop-2.new.self.items c.in-Some-pop.r (read c.args.heap.now c.args.node.index (renamed c.args.levels.now)) c.in-Some-pop.ensures.items
          (subst (λ (ws : List Task). Comes c.args.heap.now (reverse ws) c.loop-task.entries.items c.loop-task.under (done_terms (terms_of c.loop-task.cells) c.loop-task.done.items) (read c.args.heap.now c.args.node.index (renamed c.args.levels.now))) no_work c.loop-task.invariant.comes);
    }

pub returns-clause-variables : goal.returns-clause-variables
returns-clause-variables c = (done-last c.args.heap.now (terms_of c.loop-task.cells) c.loop-task.done.items c.pop-2.new.self.items c.in-Some-pop.r c.in-Some-pop.ensures.items c.loop-task.invariant.there).1

pub returns-clause-gains : goal.returns-clause-gains
returns-clause-gains c = c.loop-task.invariant.gains
