use Rattle.std.proofs.Common.{◌∙◌, ℕ, ◌<◌, ◌∷◌, [], ◌++◌, List, length, map, reverse, sym, subst, arith, refl}
use Rattle.level_terms.specs.Sound.{AllOlder}
use Rattle.level_terms.specs.declared.node.TermId.{TermId}
use Rattle.level_terms.specs.Values.{value_of}
use Rattle.level_terms.proofs.GrowthLemmas.{grows-refl, grows-trans}
use Rattle.level_terms.proofs.MakeLemmas.{older-last}
use Rattle.beta_fragment.proofs.SplitLemmas.{empty-list}
use Rattle.pattern_unify.specs.declared.filling.Task.{Task}
use Rattle.pattern_unify.specs.declared.filling.Task.TheVariants.{Visit}
use Rattle.pattern_unify.specs.inside.Filling.{Leads, IsLeading, work_size}
use Rattle.pattern_unify.proofs.FillingWork.{leads-ready, last-leads, some-done}
use Rattle.pattern_unify.proofs.filling.filled.Goals as goal

pub returns-in_err-work-clause-grows : goal.returns-in_err-work-clause-grows
returns-in_err-work-clause-grows c = grows-refl c.args.heap.now []

pub loop-task-init : goal.loop-task-init
loop-task-init c = record {
  leads =
      subst (λ (ws : List Task). IsLeading c.args.heap.now c.args.t.index (record { heap = c.args.heap.now; work = ws; done = c.new-done.result.items })) (sym c.in_ok-work.ensures)
      (subst (λ (ds : List TermId). IsLeading c.args.heap.now c.args.t.index (record { heap = c.args.heap.now; work = Visit c.args.t ∷ []; done = ds })) (sym c.new-done.ensures.items)
      (c.requires, λ x m. m));
  there = subst (AllOlder (length c.args.heap.now.nodes)) (sym c.new-done.ensures.items) tt;
  variables = refl;
  grows = grows-refl c.args.heap.now [];
}

pub step-requires-clause-ready : goal.step-requires-clause-ready
step-requires-clause-ready c =
    leads-ready c.args.heap.now c.loop-task.heap c.args.t.index c.pop.new.self.items c.in-Some.task c.loop-task.done.items c.loop-task.invariant.grows
    (subst (λ (ws : List Task). Leads c.args.heap.now c.args.t.index (reverse ws) (map (value_of c.loop-task.heap) c.loop-task.done.items)) c.in-Some.ensures.items c.loop-task.invariant.leads)

pub step-requires-clause-done : goal.step-requires-clause-done
step-requires-clause-done c = c.loop-task.invariant.there

pub loop-task-smaller : goal.loop-task-smaller
loop-task-smaller c =
    let leads = subst (λ (ws : List Task). IsLeading c.args.heap.now c.args.t.index (record { heap = c.loop-task.heap; work = ws; done = c.loop-task.done.items })) c.in-Some.ensures.items c.loop-task.invariant.leads in
    let less = c.in_ok-step.ensures.steps.falls c.args.heap.now c.args.t.index c.is_sound.ensures c.loop-task.invariant.grows leads in
    subst (λ (ws : List Task). work_size c.args.heap.now (reverse c.step.new.work.items) < work_size c.args.heap.now (reverse ws)) (sym c.in-Some.ensures.items) less

pub loop-task-preserved : goal.loop-task-preserved
loop-task-preserved c =
    let leads = subst (λ (ws : List Task). IsLeading c.args.heap.now c.args.t.index (record { heap = c.loop-task.heap; work = ws; done = c.loop-task.done.items })) c.in-Some.ensures.items c.loop-task.invariant.leads in
    record {
      leads = c.in_ok-step.ensures.steps.leads c.args.heap.now c.args.t.index c.is_sound.ensures c.loop-task.invariant.grows leads;
      there = c.in_ok-step.ensures.done;
      variables = c.in_ok-step.ensures.variables ∙ c.loop-task.invariant.variables;
      grows = grows-trans c.args.heap.now c.loop-task.heap c.step.new.heap [] [] [] c.loop-task.invariant.grows c.in_ok-step.ensures.grows;
    }

pub returns-in_err-step-clause-grows : goal.returns-in_err-step-clause-grows
returns-in_err-step-clause-grows c = grows-trans c.args.heap.now c.loop-task.heap c.step.new.heap [] [] [] c.loop-task.invariant.grows c.step.ensures.grows

pub unreachable-requires : goal.unreachable-requires
unreachable-requires c =
    let no_work = empty-list c.loop-task.work.items (omega (arith, c.loop-task.work.ok, c.in_default.ensures.cases.0)) in
    let none = empty-list c.loop-task.done.items (omega (arith, c.loop-task.done.ok, c.in-None.ensures.cases.0)) in
    some-done c.args.heap.now c.loop-task.heap c.args.t.index c.loop-task.done.items
    (subst (λ (ws : List Task). Leads c.args.heap.now c.args.t.index (reverse ws) (map (value_of c.loop-task.heap) c.loop-task.done.items)) no_work c.loop-task.invariant.leads) none

pub returns-clause-fills : goal.returns-clause-fills
returns-clause-fills c =
    let no_work = empty-list c.loop-task.work.items (omega (arith, c.loop-task.work.ok, c.in_default.ensures.cases.0)) in
    last-leads c.args.heap.now c.loop-task.heap c.args.t.index c.loop-task.done.items c.pop-2.new.self.items c.in-Some-pop.r c.in-Some-pop.ensures.items
    (subst (λ (ws : List Task). Leads c.args.heap.now c.args.t.index (reverse ws) (map (value_of c.loop-task.heap) c.loop-task.done.items)) no_work c.loop-task.invariant.leads)

pub returns-clause-there : goal.returns-clause-there
returns-clause-there c = older-last (length c.loop-task.heap.nodes) c.pop-2.new.self.items c.in-Some-pop.r (subst (AllOlder (length c.loop-task.heap.nodes)) c.in-Some-pop.ensures.items c.loop-task.invariant.there)
