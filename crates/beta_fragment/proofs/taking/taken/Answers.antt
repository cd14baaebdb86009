use Rattle.std.proofs.Common.{List, map, reverse, subst}
use Rattle.beta_fragment.specs.inside.Cells.{terms_of, term_at}
use Rattle.beta_fragment.specs.inside.Taking.{Comes, Goes, outside, replaced}
use Rattle.beta_fragment.specs.declared.taking.Task.{Task}
use Rattle.beta_fragment.proofs.CellLemmas.{gains-trans}
use Rattle.beta_fragment.proofs.TakingSteps.{pushed}
use Rattle.beta_fragment.proofs.taking.taken.Goals as goal

pub returns-in_err-more-clause-gains : goal.returns-in_err-more-clause-gains
returns-in_err-more-clause-gains c = gains-trans (terms_of c.args.cells.now) (terms_of c.loop-task.cells) (terms_of c.step.new.cells) c.loop-task.invariant.gains c.step.ensures.gains

pub returns-then-not-more-clause-gains : goal.returns-then-not-more-clause-gains
returns-then-not-more-clause-gains c = gains-trans (terms_of c.args.cells.now) (terms_of c.loop-task.cells) (terms_of c.step.new.cells) c.loop-task.invariant.gains c.in_ok-more.ensures.gains

pub loop-task-preserved : goal.loop-task-preserved
loop-task-preserved c =
    let o = replaced (outside (terms_of c.args.cells.now) c.args.put) (term_at (terms_of c.args.cells.now) c.args.t) in
    let before = subst (λ (ws : List Task). Comes (terms_of c.args.cells.now) ws (map (term_at (terms_of c.loop-task.cells)) (reverse c.loop-task.done.items)) o) (pushed c.pop.new.self.items c.loop-task.work.items c.in-Some.task c.in-Some.ensures.items) c.loop-task.invariant.comes in
    let next = c.in_ok-more.ensures.steps.comes (terms_of c.args.cells.now) o c.loop-task.invariant.gains before in
    record {
      comes = subst (λ b. Goes b (terms_of c.args.cells.now) o (record { terms = terms_of c.step.new.cells; work = reverse c.step.new.work.items; done = reverse c.step.new.done.items })) c.if-not-more.false next;
      there = c.in_ok-more.ensures.done;
      gains = gains-trans (terms_of c.args.cells.now) (terms_of c.loop-task.cells) (terms_of c.step.new.cells) c.loop-task.invariant.gains c.in_ok-more.ensures.gains;
    }
