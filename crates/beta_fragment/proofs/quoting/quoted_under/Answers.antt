use Rattle.std.proofs.Common.{[], List, arith, subst, refl, ◌∙◌}
use Rattle.level_terms.proofs.GrowthLemmas.{grows-refl, grows-trans}
use Rattle.beta_fragment.specs.declared.quoting.Task.{Task}
use Rattle.beta_fragment.specs.inside.Cells.{terms_of, term_at}
use Rattle.beta_fragment.specs.inside.Quoting.{IsQuoting, set_for, item}
use Rattle.beta_fragment.proofs.SplitLemmas.{empty-list}
use Rattle.beta_fragment.proofs.QuoteLemmas.{put-grown, any-grown}
use Rattle.beta_fragment.proofs.QuoteWork.{first-quotes, ready-next, quote-older, last-quotes, some-done}
use Rattle.beta_fragment.proofs.quoting.quoted_under.Goals as goal

pub returns-in_err-work-clause-grows : goal.returns-in_err-work-clause-grows
returns-in_err-work-clause-grows c = grows-refl c.args.heap.now []

pub loop-task-init : goal.loop-task-init
loop-task-init c = record {
  quoting = first-quotes (set_for c.args.heap.now (terms_of c.args.cells.now) c.args.depth c.args.put) c.args.heap.now c.args.t c.args.under c.in_ok-work.work.items c.new-done.result.items c.requires.ready c.in_ok-work.ensures c.new-done.ensures.items;
  variables = refl;
  grows = grows-refl c.args.heap.now [];
}

pub step-requires-clause-ready : goal.step-requires-clause-ready
step-requires-clause-ready c =
    ready-next c.args.heap.now c.loop-task.heap (terms_of c.args.cells.now) c.args.depth c.args.put (item c.args.under (term_at (terms_of c.args.cells.now) c.args.t)) c.pop.new.self.items c.in-Some.task c.loop-task.done.items c.loop-task.invariant.grows
    (subst (λ (ks : List Task). IsQuoting (set_for c.args.heap.now (terms_of c.args.cells.now) c.args.depth c.args.put) (item c.args.under (term_at (terms_of c.args.cells.now) c.args.t)) c.loop-task.heap ks c.loop-task.done.items) c.in-Some.ensures.items c.loop-task.invariant.quoting)

pub step-requires-clause-put : goal.step-requires-clause-put
step-requires-clause-put c = any-grown c.args.heap.now c.loop-task.heap c.args.depth c.args.put c.is_sound.ensures c.loop-task.invariant.grows c.requires.put

pub step-requires-clause-done : goal.step-requires-clause-done
step-requires-clause-done c = quote-older (set_for c.args.heap.now (terms_of c.args.cells.now) c.args.depth c.args.put) c.loop-task.heap c.loop-task.invariant.quoting.stack c.loop-task.done.items c.loop-task.invariant.quoting.known

pub loop-task-preserved : goal.loop-task-preserved
loop-task-preserved c =
    let old = subst (λ (ks : List Task). IsQuoting (set_for c.args.heap.now (terms_of c.args.cells.now) c.args.depth c.args.put) (item c.args.under (term_at (terms_of c.args.cells.now) c.args.t)) c.loop-task.heap ks c.loop-task.done.items) c.in-Some.ensures.items c.loop-task.invariant.quoting in
    record {
      quoting = c.in_ok-step.ensures.steps c.args.heap.now (item c.args.under (term_at (terms_of c.args.cells.now) c.args.t)) (put-grown c.args.heap.now c.loop-task.heap c.args.depth c.args.put c.is_sound.ensures c.loop-task.invariant.grows c.requires.put) old;
      variables = c.in_ok-step.ensures.variables ∙ c.loop-task.invariant.variables;
      grows = grows-trans c.args.heap.now c.loop-task.heap c.step.new.heap [] [] [] c.loop-task.invariant.grows c.in_ok-step.ensures.grows;
    }

pub returns-in_err-step-clause-grows : goal.returns-in_err-step-clause-grows
returns-in_err-step-clause-grows c = grows-trans c.args.heap.now c.loop-task.heap c.step.new.heap [] [] [] c.loop-task.invariant.grows c.step.ensures.grows

pub unreachable-requires : goal.unreachable-requires
unreachable-requires c =
    let no_work = empty-list c.loop-task.work.items (omega (arith, c.loop-task.work.ok, c.in_default.ensures.cases.0)) in
    let none = empty-list c.loop-task.done.items (omega (arith, c.loop-task.done.ok, c.in-None.ensures.cases.0)) in
    some-done (set_for c.args.heap.now (terms_of c.args.cells.now) c.args.depth c.args.put) (item c.args.under (term_at (terms_of c.args.cells.now) c.args.t)) c.loop-task.heap c.loop-task.work.items c.loop-task.done.items no_work none c.loop-task.invariant.quoting

pub returns-clause-quotes : goal.returns-clause-quotes
returns-clause-quotes c =
    let no_work = empty-list c.loop-task.work.items (omega (arith, c.loop-task.work.ok, c.in_default.ensures.cases.0)) in
    last-quotes (set_for c.args.heap.now (terms_of c.args.cells.now) c.args.depth c.args.put) (item c.args.under (term_at (terms_of c.args.cells.now) c.args.t)) c.loop-task.heap c.loop-task.work.items c.loop-task.done.items c.pop-2.new.self.items c.in-Some-pop.r no_work c.in-Some-pop.ensures.items c.loop-task.invariant.quoting
