use Rattle.std.proofs.Common.{Option, List, length, ap, ◌∙◌, sym, subst}
use Rattle.level_terms.specs.declared.node.Node.{Node}
use Rattle.beta_fragment.specs.declared.answer.UnifyStop.{UnifyStop}
use Rattle.ref_terms.specs.search.Branch.{Branch}
use Rattle.ref_terms.specs.search.Next.{next}
use Rattle.ref_terms.specs.search.RuleInstance.{after_firing}
use Rattle.ref_terms.specs.search.State.{State}
use Rattle.ref_terms.specs.unification.Unification.{unify}
use Rattle.sequent_rules.specs.declared.firing.Firing.{Firing}
use Rattle.sequent_rules.specs.Instances.{Answers, StopsBy, first_of, firing_in}
use Rattle.search_moves.specs.declared.frame.Saved.{Saved}
use Rattle.search_moves.specs.declared.machine.Event.TheVariants as event
use Rattle.search_moves.specs.Machine.{branch_of, HasMoved}
use Rattle.search_moves.specs.Waking.{up_in}
use Rattle.search_moves.proofs.SolveLemmas.{picked-true, picked-false}
use Rattle.search_moves.proofs.MoveLemmas.{woken-moved, same-state, fired-moved, rule-broken}
use Rattle.search_moves.proofs.machine.Machine.run.Goals as goal

pub returns-then-woken-clause-moved : goal.returns-then-woken-clause-moved
returns-then-woken-clause-moved g c = λ p stands rules known.
    woken-moved p c.args.self.now c.wake.new.self c.requires.running (c.wake.ensures.phase ∙ c.requires.running) (picked-true _ _ c.in_ok-woken.woken c.if-woken.true c.in_ok-woken.ensures.woken) (c.wake.ensures.alternatives p)

pub returns-in_ok-fire-in-Ok-Some-clause-moved : goal.returns-in_ok-fire-in-Ok-Some-clause-moved
returns-in_ok-fire-in-Ok-Some-clause-moved g c = λ p stands rules known.
    let old = c.args.self.now in
    let m = c.wake.new.self in
    let n = c.next_rule.new.self in
    let new = c.fire.new.self in
    let h = picked-false _ _ c.in_ok-woken.woken c.if-woken.false c.in_ok-woken.ensures.woken in
    let runs = c.wake.ensures.phase ∙ c.requires.running in
    let f = firing_in n.world.heap c.in-Ok-Some.firing in
    let is = subst (λ (o : Option Firing). Answers n.world.heap o (first_of p.rules (branch_of m))) c.in-Ok-Some.field-0-is (c.in-Ok-Some.ensures.answer p (subst (λ (ns : List Node). g.R.Rules.stands ns c.args.rules.now p) (sym c.wake.ensures.code) rules)) in
    let branch =
    c.in_ok-fire-in-Ok-Some.ensures.branch ∙ ap (λ (b : Branch). after_firing b (length n.saved) f) c.next_rule.ensures.branch
    ∙ ap (λ (saved : List Saved). after_firing (branch_of m) (length saved) f) c.next_rule.ensures.saved in
    subst (λ (s : State). HasMoved p (next unify p s) event.Moved new) (same-state p old m c.requires.running runs h.branch (c.wake.ensures.alternatives p))
    (fired-moved p m new f (ap up_in h.branch ∙ h.none) runs (c.fire.ensures.phase ∙ c.next_rule.ensures.phase ∙ runs) is branch (c.fire.ensures.alternatives p ∙ c.next_rule.ensures.alternatives p))

pub returns-in-Err-Fault-clause-moved : goal.returns-in-Err-Fault-clause-moved
returns-in-Err-Fault-clause-moved g c = λ p stands rules known.
    let old = c.args.self.now in
    let m = c.wake.new.self in
    let n = c.next_rule.new.self in
    let new = c.break_off.new.self in
    let h = picked-false _ _ c.in_ok-woken.woken c.if-woken.false c.in_ok-woken.ensures.woken in
    let runs = c.wake.ensures.phase ∙ c.requires.running in
    let is = subst (λ (stop : UnifyStop). StopsBy stop (first_of p.rules (branch_of m))) c.in-Err-Fault.field-0-is (c.in-Err-Fault.ensures.stops p (subst (λ (ns : List Node). g.R.Rules.stands ns c.args.rules.now p) (sym c.wake.ensures.code) rules)) in
    subst (λ (s : State). HasMoved p (next unify p s) c.break_off.result new) (same-state p old m c.requires.running runs h.branch (c.wake.ensures.alternatives p))
    (rule-broken p m n new c.in-Err-Fault.e c.break_off.result (ap up_in h.branch ∙ h.none) runs is c.break_off.ensures.fault c.break_off.ensures.phase)
