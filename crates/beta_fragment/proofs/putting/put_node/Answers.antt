use Rattle.ref_terms.specs.terms.Ready.{ready}
use Rattle.beta_fragment.specs.Names.{names}
use Rattle.std.proofs.Common.{ap, ℕ, ◌<◌, ◌+◌, ◌++◌, ◌∷◌, [], List, length, map, reverse, sym, subst, arith, refl, ◌∙◌}
use Rattle.level_terms.specs.Sound.{AllOlder}
use Rattle.level_terms.specs.Reading.{read}
use Rattle.level_terms.specs.declared.node.TermId.{TermId}
use Rattle.level_terms.proofs.GrowthLemmas.{grows-refl, grows-trans}
use Rattle.level_terms.proofs.ValidLemmas.{growth_keeps_valid}
use Rattle.beta_fragment.specs.declared.renaming.Task.{Task}
use Rattle.beta_fragment.specs.declared.renaming.Task.TheVariants.{Visit, Lam, App}
use Rattle.level_terms.specs.Values.{value_of}
use Rattle.beta_fragment.specs.Moves.{Plan, putting}
use Rattle.beta_fragment.specs.inside.Settled.{IsTaskThere}
use Rattle.beta_fragment.specs.inside.Work.{Leads, IsLeading, work_size, Steps, IsReady}
use Rattle.level_terms.proofs.ReadLemmas.{valid-below, grown-reads}
use Rattle.level_terms.proofs.MakeLemmas.{older-last}
use Rattle.beta_fragment.proofs.SplitLemmas.{empty-list}
use Rattle.beta_fragment.proofs.WorkLemmas.{leads-ready, last-leads, some-done, newest-task}
use Rattle.beta_fragment.proofs.putting.put_node.Goals as goal

-- a task that can be done has its node
task-there : (plan : Plan) (nodes done : ℕ) (task : Task) → IsReady plan nodes done task → IsTaskThere nodes task
task-there plan nodes done (Visit n b) r = r.0
task-there plan nodes done (Lam d) r = tt
task-there plan nodes done (App m) r = tt

pub can_go-requires : goal.can_go-requires
can_go-requires c =
    let leads = subst (λ (ws : List Task). Leads c.args.heap.now (putting (read c.args.heap.now c.args.put.index) c.args.level) c.args.t.index 0 (c.args.level + 1) (reverse ws) (map (value_of c.loop-task.heap) c.loop-task.done.items)) c.in-Some.ensures.items c.loop-task.invariant.leads in
    task-there (putting (read c.args.heap.now c.args.put.index) c.args.level) (length c.loop-task.heap.nodes) (length c.loop-task.done.items) c.in-Some.task
    (leads-ready c.args.heap.now c.loop-task.heap (putting (read c.args.heap.now c.args.put.index) c.args.level) c.args.t.index 0 (c.args.level + 1) c.in-Some.task (reverse c.pop.new.self.items) c.loop-task.done.items c.loop-task.invariant.grows
    (subst (λ (ks : List Task). Leads c.args.heap.now (putting (read c.args.heap.now c.args.put.index) c.args.level) c.args.t.index 0 (c.args.level + 1) ks (map (value_of c.loop-task.heap) c.loop-task.done.items)) (newest-task c.pop.new.self.items c.in-Some.task) leads))

pub returns-in_err-work-clause-grows : goal.returns-in_err-work-clause-grows
returns-in_err-work-clause-grows c = grows-refl c.args.heap.now []

pub loop-task-init : goal.loop-task-init
loop-task-init c = record {
  leads =
      subst (λ (ws : List Task). IsLeading c.args.heap.now (putting (read c.args.heap.now c.args.put.index) c.args.level) c.args.t.index 0 (c.args.level + 1) (record { heap = c.args.heap.now; work = ws; done = c.new-done.result.items })) (sym c.in_ok-work.ensures)
      (subst (λ (ds : List TermId). IsLeading c.args.heap.now (putting (read c.args.heap.now c.args.put.index) c.args.level) c.args.t.index 0 (c.args.level + 1) (record { heap = c.args.heap.now; work = Visit c.args.t 0 ∷ []; done = ds })) (sym c.new-done.ensures.items)
      (c.args.level + 1, c.requires.valid, omega arith, tt, λ x m. m));
  there = subst (AllOlder (length c.args.heap.now.nodes)) (sym c.new-done.ensures.items) tt;
  variables = refl;
  grows = grows-refl c.args.heap.now [];
}

pub put_step-requires-clause-put : goal.put_step-requires-clause-put
put_step-requires-clause-put c = growth_keeps_valid c.args.heap.now c.loop-task.heap [] [] c.args.put.index c.args.level c.is_sound.ensures c.loop-task.invariant.grows (valid-below c.args.heap.now c.args.put.index c.args.level c.requires.put) c.requires.put

pub put_step-requires-clause-taken : goal.put_step-requires-clause-taken
put_step-requires-clause-taken c = λ e.
    let same = grown-reads c.args.heap.now c.loop-task.heap c.is_sound.ensures c.loop-task.invariant.grows c.args.put.index (valid-below c.args.heap.now c.args.put.index c.args.level c.requires.put) in
    ap (λ f. ready (f names)) same ∙ c.requires.taken e

pub put_step-requires-clause-ready : goal.put_step-requires-clause-ready
put_step-requires-clause-ready c =
    let leads = subst (λ (ws : List Task). Leads c.args.heap.now (putting (read c.args.heap.now c.args.put.index) c.args.level) c.args.t.index 0 (c.args.level + 1) (reverse ws) (map (value_of c.loop-task.heap) c.loop-task.done.items)) c.in-Some.ensures.items c.loop-task.invariant.leads in
    let same = grown-reads c.args.heap.now c.loop-task.heap c.is_sound.ensures c.loop-task.invariant.grows c.args.put.index (valid-below c.args.heap.now c.args.put.index c.args.level c.requires.put) in
    subst (λ f. IsReady (putting f c.args.level) (length c.loop-task.heap.nodes) (length c.loop-task.done.items) c.in-Some.task) (sym same)
    (leads-ready c.args.heap.now c.loop-task.heap (putting (read c.args.heap.now c.args.put.index) c.args.level) c.args.t.index 0 (c.args.level + 1) c.in-Some.task (reverse c.pop.new.self.items) c.loop-task.done.items c.loop-task.invariant.grows
    (subst (λ (ks : List Task). Leads c.args.heap.now (putting (read c.args.heap.now c.args.put.index) c.args.level) c.args.t.index 0 (c.args.level + 1) ks (map (value_of c.loop-task.heap) c.loop-task.done.items)) (newest-task c.pop.new.self.items c.in-Some.task) leads))

pub put_step-requires-clause-done : goal.put_step-requires-clause-done
put_step-requires-clause-done c = c.loop-task.invariant.there

pub loop-task-smaller : goal.loop-task-smaller
loop-task-smaller c =
    let leads = subst (λ (ws : List Task). IsLeading c.args.heap.now (putting (read c.args.heap.now c.args.put.index) c.args.level) c.args.t.index 0 (c.args.level + 1) (record { heap = c.loop-task.heap; work = ws; done = c.loop-task.done.items })) c.in-Some.ensures.items c.loop-task.invariant.leads in
    let same = grown-reads c.args.heap.now c.loop-task.heap c.is_sound.ensures c.loop-task.invariant.grows c.args.put.index (valid-below c.args.heap.now c.args.put.index c.args.level c.requires.put) in
    let steps = subst (λ f. Steps (putting f c.args.level) (record { heap = c.loop-task.heap; work = c.pop.new.self.items ++ c.in-Some.task ∷ []; done = c.loop-task.done.items }) (record { heap = c.put_step.new.heap; work = c.put_step.new.work.items; done = c.put_step.new.done.items })) same c.in_ok-put_step.ensures.steps in
    let less = steps.falls c.args.heap.now c.args.t.index 0 (c.args.level + 1) c.is_sound.ensures c.loop-task.invariant.grows leads in
    subst (λ (ws : List Task). work_size c.args.heap.now (reverse c.put_step.new.work.items) < work_size c.args.heap.now (reverse ws)) (sym c.in-Some.ensures.items) less

pub loop-task-preserved : goal.loop-task-preserved
loop-task-preserved c =
    let leads = subst (λ (ws : List Task). IsLeading c.args.heap.now (putting (read c.args.heap.now c.args.put.index) c.args.level) c.args.t.index 0 (c.args.level + 1) (record { heap = c.loop-task.heap; work = ws; done = c.loop-task.done.items })) c.in-Some.ensures.items c.loop-task.invariant.leads in
    let same = grown-reads c.args.heap.now c.loop-task.heap c.is_sound.ensures c.loop-task.invariant.grows c.args.put.index (valid-below c.args.heap.now c.args.put.index c.args.level c.requires.put) in
    let steps = subst (λ f. Steps (putting f c.args.level) (record { heap = c.loop-task.heap; work = c.pop.new.self.items ++ c.in-Some.task ∷ []; done = c.loop-task.done.items }) (record { heap = c.put_step.new.heap; work = c.put_step.new.work.items; done = c.put_step.new.done.items })) same c.in_ok-put_step.ensures.steps in
    record {
      leads = steps.leads c.args.heap.now c.args.t.index 0 (c.args.level + 1) c.is_sound.ensures c.loop-task.invariant.grows leads;
      there = c.in_ok-put_step.ensures.done;
      variables = c.in_ok-put_step.ensures.variables ∙ c.loop-task.invariant.variables;
      grows = grows-trans c.args.heap.now c.loop-task.heap c.put_step.new.heap [] [] [] c.loop-task.invariant.grows c.in_ok-put_step.ensures.grows;
    }

pub returns-in_err-put_step-clause-grows : goal.returns-in_err-put_step-clause-grows
returns-in_err-put_step-clause-grows c = grows-trans c.args.heap.now c.loop-task.heap c.put_step.new.heap [] [] [] c.loop-task.invariant.grows c.put_step.ensures.grows

pub unreachable-requires : goal.unreachable-requires
unreachable-requires c =
    let no_work = empty-list c.loop-task.work.items (omega (arith, c.loop-task.work.ok, c.in_default.ensures.cases.0)) in
    let none = empty-list c.loop-task.done.items (omega (arith, c.loop-task.done.ok, c.in-None.ensures.cases.0)) in
    some-done c.args.heap.now c.loop-task.heap (putting (read c.args.heap.now c.args.put.index) c.args.level) c.args.t.index 0 (c.args.level + 1) c.loop-task.done.items
    (subst (λ (ws : List Task). Leads c.args.heap.now (putting (read c.args.heap.now c.args.put.index) c.args.level) c.args.t.index 0 (c.args.level + 1) (reverse ws) (map (value_of c.loop-task.heap) c.loop-task.done.items)) no_work c.loop-task.invariant.leads) none

pub returns-clause-puts : goal.returns-clause-puts
returns-clause-puts c =
    let no_work = empty-list c.loop-task.work.items (omega (arith, c.loop-task.work.ok, c.in_default.ensures.cases.0)) in
    last-leads c.args.heap.now c.loop-task.heap (putting (read c.args.heap.now c.args.put.index) c.args.level) c.args.t.index 0 (c.args.level + 1) c.loop-task.done.items c.pop-2.new.self.items c.in-Some-pop.r c.in-Some-pop.ensures.items
    (subst (λ (ws : List Task). Leads c.args.heap.now (putting (read c.args.heap.now c.args.put.index) c.args.level) c.args.t.index 0 (c.args.level + 1) (reverse ws) (map (value_of c.loop-task.heap) c.loop-task.done.items)) no_work c.loop-task.invariant.leads)

pub returns-clause-there : goal.returns-clause-there
returns-clause-there c = older-last (length c.loop-task.heap.nodes) c.pop-2.new.self.items c.in-Some-pop.r (subst (AllOlder (length c.loop-task.heap.nodes)) c.in-Some-pop.ensures.items c.loop-task.invariant.there)
