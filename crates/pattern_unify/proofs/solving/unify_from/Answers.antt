use Rattle.std.proofs.Common.{◌<◌, List, ◌∷◌, [], ◌++◌, ap, refl, subst, arith}
use Rattle.level_terms.proofs.GrowthLemmas.{grows-refl, grows-trans}
use Rattle.ref_terms.specs.unification.Rules.{step}
use Rattle.ref_terms.specs.unification.Unification.{steps_of}
use Rattle.beta_fragment.proofs.SplitLemmas.{empty-list}
use Rattle.pattern_unify.specs.Answers.{problem_of}
use Rattle.pattern_unify.specs.inside.Equations.{problem_at}
use Rattle.pattern_unify.specs.inside.Turns.{IsTurn}
use Rattle.pattern_unify.specs.inside.Underway.{IsUnderway}
use Rattle.pattern_unify.specs.declared.equation.Equation.{Equation}
use Rattle.pattern_unify.proofs.EquationLemmas.{taken-valid, left-valid}
use Rattle.pattern_unify.proofs.KeptLemmas.{frozen-trans}
use Rattle.pattern_unify.proofs.UnderwayLemmas.{underway-first, underway-on, turn-falls, underway-clash, underway-fault, underway-end}
use Rattle.pattern_unify.proofs.solving.unify_from.Goals as goal

pub loop-work-init : goal.loop-work-init
loop-work-init c =
    let first : Equation = record { left = c.args.s; right = c.args.t; depth = c.args.depth } in
    record {
      underway = underway-first c.args.mark.index c.args.heap.now c.args.s.index c.args.t.index c.args.depth first (c.new-work.result.items ++ first ∷ []) refl refl refl (ap (λ (es : List Equation). es ++ first ∷ []) c.new-work.ensures.items) (c.requires.left, c.requires.right);
      frozen = λ w h. refl;
      grows = grows-refl c.args.heap.now c.args.trail.now.entries;
    }

pub turn-requires-clause-equation : goal.turn-requires-clause-equation
turn-requires-clause-equation c = taken-valid c.loop-work.heap (c.loop-work.work.items ++ c.loop-work.e ∷ []) c.loop-work.work.items c.loop-work.e refl c.loop-work.invariant.underway.valid

pub turn-requires-clause-valid : goal.turn-requires-clause-valid
turn-requires-clause-valid c = left-valid c.loop-work.heap (c.loop-work.work.items ++ c.loop-work.e ∷ []) c.loop-work.work.items c.loop-work.e refl c.loop-work.invariant.underway.valid

pub returns-in_err-turn-clause-frozen : goal.returns-in_err-turn-clause-frozen
returns-in_err-turn-clause-frozen c = frozen-trans c.args.heap.now c.loop-work.heap c.turn.new.heap c.args.mark.index c.loop-work.invariant.frozen c.turn.ensures.frozen

pub returns-in_err-turn-clause-grows : goal.returns-in_err-turn-clause-grows
returns-in_err-turn-clause-grows c = grows-trans c.args.heap.now c.loop-work.heap c.turn.new.heap c.args.trail.now.entries c.loop-work.trail.entries c.turn.new.trail.entries c.loop-work.invariant.grows c.turn.ensures.grows

pub loop-work-smaller : goal.loop-work-smaller
loop-work-smaller c =
    let goes = subst (IsTurn c.loop-work.heap c.turn.new.heap (λ bs. step c.args.mark.index (problem_at c.loop-work.heap (c.loop-work.work.items ++ c.loop-work.e ∷ []) bs)) c.turn.new.work.items) c.in-Goes.is c.in_ok-turn.ensures.turn in
    subst (λ (es : List Equation). steps_of c.args.mark.index (problem_at c.turn.new.heap es []) < steps_of c.args.mark.index (problem_at c.loop-work.heap (c.loop-work.work.items ++ c.loop-work.e ∷ []) [])) c.in-Some.ensures.items
    (turn-falls c.args.mark.index c.loop-work.heap c.turn.new.heap (c.loop-work.work.items ++ c.loop-work.e ∷ []) c.loop-work.work.items c.turn.new.work.items c.loop-work.e refl goes)

pub loop-work-preserved : goal.loop-work-preserved
loop-work-preserved c =
    let goes = subst (IsTurn c.loop-work.heap c.turn.new.heap (λ bs. step c.args.mark.index (problem_at c.loop-work.heap (c.loop-work.work.items ++ c.loop-work.e ∷ []) bs)) c.turn.new.work.items) c.in-Goes.is c.in_ok-turn.ensures.turn in
    record {
      underway = subst (IsUnderway c.args.mark.index (problem_of c.args.heap.now c.args.s.index c.args.t.index c.args.depth) c.args.heap.now c.turn.new.heap) c.in-Some.ensures.items
          (underway-on c.args.mark.index (problem_of c.args.heap.now c.args.s.index c.args.t.index c.args.depth) c.args.heap.now c.loop-work.heap c.turn.new.heap c.args.trail.now.entries c.loop-work.trail.entries (c.loop-work.work.items ++ c.loop-work.e ∷ []) c.loop-work.work.items c.turn.new.work.items c.loop-work.e
          refl c.loop-work.invariant.grows c.loop-work.invariant.underway goes);
      frozen = frozen-trans c.args.heap.now c.loop-work.heap c.turn.new.heap c.args.mark.index c.loop-work.invariant.frozen c.turn.ensures.frozen;
      grows = grows-trans c.args.heap.now c.loop-work.heap c.turn.new.heap c.args.trail.now.entries c.loop-work.trail.entries c.turn.new.trail.entries c.loop-work.invariant.grows c.turn.ensures.grows;
    }

pub returns-in-Clash-clause-answer : goal.returns-in-Clash-clause-answer
returns-in-Clash-clause-answer c =
    let clash = subst (IsTurn c.loop-work.heap c.turn.new.heap (λ bs. step c.args.mark.index (problem_at c.loop-work.heap (c.loop-work.work.items ++ c.loop-work.e ∷ []) bs)) c.turn.new.work.items) c.in-Clash.is c.in_ok-turn.ensures.turn in
    underway-clash c.args.mark.index (problem_of c.args.heap.now c.args.s.index c.args.t.index c.args.depth) c.args.heap.now c.loop-work.heap (c.loop-work.work.items ++ c.loop-work.e ∷ []) c.loop-work.work.items c.loop-work.e refl c.loop-work.invariant.underway clash

pub returns-in-Clash-clause-frozen : goal.returns-in-Clash-clause-frozen
returns-in-Clash-clause-frozen c = frozen-trans c.args.heap.now c.loop-work.heap c.turn.new.heap c.args.mark.index c.loop-work.invariant.frozen c.turn.ensures.frozen

pub returns-in-Clash-clause-grows : goal.returns-in-Clash-clause-grows
returns-in-Clash-clause-grows c = grows-trans c.args.heap.now c.loop-work.heap c.turn.new.heap c.args.trail.now.entries c.loop-work.trail.entries c.turn.new.trail.entries c.loop-work.invariant.grows c.turn.ensures.grows

pub returns-in-Fault-clause-stops : goal.returns-in-Fault-clause-stops
returns-in-Fault-clause-stops c =
    let fault = subst (IsTurn c.loop-work.heap c.turn.new.heap (λ bs. step c.args.mark.index (problem_at c.loop-work.heap (c.loop-work.work.items ++ c.loop-work.e ∷ []) bs)) c.turn.new.work.items) c.in-Fault.is c.in_ok-turn.ensures.turn in
    underway-fault c.args.mark.index (problem_of c.args.heap.now c.args.s.index c.args.t.index c.args.depth) c.args.heap.now c.loop-work.heap c.turn.new.heap (c.loop-work.work.items ++ c.loop-work.e ∷ []) c.loop-work.work.items c.turn.new.work.items c.loop-work.e refl c.loop-work.invariant.underway c.in-Fault.f fault

pub returns-in-Fault-clause-frozen : goal.returns-in-Fault-clause-frozen
returns-in-Fault-clause-frozen c = frozen-trans c.args.heap.now c.loop-work.heap c.turn.new.heap c.args.mark.index c.loop-work.invariant.frozen c.turn.ensures.frozen

pub returns-in-Fault-clause-grows : goal.returns-in-Fault-clause-grows
returns-in-Fault-clause-grows c = grows-trans c.args.heap.now c.loop-work.heap c.turn.new.heap c.args.trail.now.entries c.loop-work.trail.entries c.turn.new.trail.entries c.loop-work.invariant.grows c.turn.ensures.grows

pub returns-in-None-clause-answer : goal.returns-in-None-clause-answer
returns-in-None-clause-answer c =
    let goes = subst (IsTurn c.loop-work.heap c.turn.new.heap (λ bs. step c.args.mark.index (problem_at c.loop-work.heap (c.loop-work.work.items ++ c.loop-work.e ∷ []) bs)) c.turn.new.work.items) c.in-Goes.is c.in_ok-turn.ensures.turn in
    let none = empty-list c.turn.new.work.items (omega (arith, c.turn.new.work.ok, c.in-None.ensures.cases.0)) in
    underway-end c.args.mark.index (problem_of c.args.heap.now c.args.s.index c.args.t.index c.args.depth) c.args.heap.now c.turn.new.heap c.turn.new.work.items none
    (underway-on c.args.mark.index (problem_of c.args.heap.now c.args.s.index c.args.t.index c.args.depth) c.args.heap.now c.loop-work.heap c.turn.new.heap c.args.trail.now.entries c.loop-work.trail.entries (c.loop-work.work.items ++ c.loop-work.e ∷ []) c.loop-work.work.items c.turn.new.work.items c.loop-work.e
    refl c.loop-work.invariant.grows c.loop-work.invariant.underway goes)

pub returns-in-None-clause-frozen : goal.returns-in-None-clause-frozen
returns-in-None-clause-frozen c = frozen-trans c.args.heap.now c.loop-work.heap c.turn.new.heap c.args.mark.index c.loop-work.invariant.frozen c.turn.ensures.frozen

pub returns-in-None-clause-grows : goal.returns-in-None-clause-grows
returns-in-None-clause-grows c = grows-trans c.args.heap.now c.loop-work.heap c.turn.new.heap c.args.trail.now.entries c.loop-work.trail.entries c.turn.new.trail.entries c.loop-work.invariant.grows c.turn.ensures.grows
