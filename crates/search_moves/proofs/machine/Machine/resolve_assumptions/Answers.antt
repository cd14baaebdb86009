use Rattle.std.proofs.Common.{◌≡◌, suc, List, drop, length, refl, sym, ap, ◌∙◌, subst, arith}
use Rattle.level_terms.specs.declared.node.Node.{Node}
use Rattle.hyp_clause.specs.Hyps.{assumption_in}
use Rattle.hyp_context.specs.Contexts.{hyps_for}
use Rattle.ref_terms.specs.search.Program.{modes_of}
use Rattle.ref_terms.specs.search.State.{of_assumption}
use Rattle.ref_terms.specs.search.Resolve.{Clashes}
use Rattle.search_moves.specs.declared.frame.Later.TheVariants.{Assumptions}
use Rattle.search_moves.specs.World.{code_nodes}
use Rattle.search_moves.specs.Reading.{later_of}
use Rattle.search_moves.specs.Machine.{branch_of}
use Rattle.search_moves.specs.Calling.{key_of_call, IsCall, HasEntered, BreaksSo, tried_here, resolved_later}
use Rattle.search_moves.proofs.SolveLemmas.{picked-true, picked-false}
use Rattle.search_moves.proofs.AssumedLemmas.{drop-step}
use Rattle.search_moves.proofs.AssumeTries.{assumed-clashes, assumed-fits, assumed-breaks, assumed-ends, resolved-before, stops-before}
use Rattle.search_moves.proofs.machine.Machine.resolve_assumptions.Goals as goal

pub loop-hyp-init : goal.loop-hyp-init
loop-hyp-init g c = (refl, c.requires.left, λ p stands inputs. refl)

pub try_assumption-requires-clause-code : goal.try_assumption-requires-clause-code
try_assumption-requires-clause-code g c =
    (c.requires.code.0, subst (λ (ns : List Node). g.C.Clauses.stands ns c.args.code.now c.requires.code.0) (sym (ap (λ m. code_nodes m.world) c.loop-hyp.invariant.0)) c.requires.code.1)

pub try_assumption-requires-clause-call : goal.try_assumption-requires-clause-call
try_assumption-requires-clause-call g c = subst (λ m. IsCall m c.args.call.now) (sym c.loop-hyp.invariant.0) c.requires.call

pub try_assumption-requires-clause-left : goal.try_assumption-requires-clause-left
try_assumption-requires-clause-left g c = sym c.loop-hyp.invariant.1 ∙ c.in-Some.ensures.some

pub returns-in-Ok-true-clause-answer : goal.returns-in-Ok-true-clause-answer
returns-in-Ok-true-clause-answer g c = λ p stands inputs.
    let m0 = c.args.self.now in
    let f = c.args.call.now.goal.now in
    let pred = c.args.call.now.pred.0 in
    let modes = modes_of p pred in
    let i = c.loop-hyp.at in
    let h = c.in-Some.hyp.now in
    let others = c.next.new.self in
    let new = c.try_assumption.new.self in
    let inv = c.loop-hyp.invariant in
    let there = subst (λ (ns : List Node). g.C.Clauses.stands ns c.args.code.now p) (sym (ap (λ m. code_nodes m.world) inv.0)) stands in
    let entered = picked-true _ _ c.in-Ok-true.field-0 c.in-Ok-true.field-0-test (c.in-Ok-true.ensures.answer p modes there refl inputs) in
    let here = subst (λ m. HasEntered p m new f modes (of_assumption i (assumption_in m.world.heap h)) (later_of p (branch_of m).goals pred (Assumptions (suc i) others))) inv.0 entered in
    resolved-before p m0 new f pred modes c.args.place i c.args.hyps c.args.hyps (inv.2 p stands inputs)
    (assumed-fits p m0 f c.requires.call.first pred modes i h others c.args.hyps others (sym inv.1 ∙ c.in-Some.ensures.some) new here)

pub returns-in-Ok-true-clause-phase : goal.returns-in-Ok-true-clause-phase
returns-in-Ok-true-clause-phase g c = c.try_assumption.ensures.phase ∙ ap (λ m. m.phase) c.loop-hyp.invariant.0

pub returns-in-Ok-true-clause-code : goal.returns-in-Ok-true-clause-code
returns-in-Ok-true-clause-code g c = c.try_assumption.ensures.code ∙ ap (λ m. code_nodes m.world) c.loop-hyp.invariant.0

pub returns-in-Err-clause-stops : goal.returns-in-Err-clause-stops
returns-in-Err-clause-stops g c = λ p stands inputs.
    let m0 = c.args.self.now in
    let f = c.args.call.now.goal.now in
    let pred = c.args.call.now.pred.0 in
    let modes = modes_of p pred in
    let i = c.loop-hyp.at in
    let h = c.in-Some.hyp.now in
    let others = c.next.new.self in
    let inv = c.loop-hyp.invariant in
    let broken = subst (λ m. BreaksSo (tried_here m f modes (of_assumption i (assumption_in m.world.heap h))) c.in-Err.stop) inv.0 (c.in-Err.ensures.stops modes inputs) in
    stops-before (resolved_later p m0 f pred (Assumptions c.args.place c.args.hyps) modes) (resolved_later p m0 f pred (Assumptions i c.args.hyps) modes) c.in-Err.stop (inv.2 p stands inputs)
    (assumed-breaks p m0 f c.requires.call.first pred modes i h others c.args.hyps others (sym inv.1 ∙ c.in-Some.ensures.some) c.in-Err.stop broken)

pub returns-in-Err-clause-phase : goal.returns-in-Err-clause-phase
returns-in-Err-clause-phase g c = c.try_assumption.ensures.phase ∙ ap (λ m. m.phase) c.loop-hyp.invariant.0

pub returns-in-Err-clause-code : goal.returns-in-Err-clause-code
returns-in-Err-clause-code g c = c.try_assumption.ensures.code ∙ ap (λ m. code_nodes m.world) c.loop-hyp.invariant.0

pub loop-hyp-preserved : goal.loop-hyp-preserved
loop-hyp-preserved g c =
    let m0 = c.args.self.now in
    let f = c.args.call.now.goal.now in
    let pred = c.args.call.now.pred.0 in
    let i = c.loop-hyp.at in
    let h = c.in-Some.hyp.now in
    let others = c.next.new.self in
    let inv = c.loop-hyp.invariant in
    let there = sym inv.1 ∙ c.in-Some.ensures.some in
    let step : suc i ≡ c.in_ok-following.following = omega (arith, c.in_ok-following.ensures) in (
      c.in-Ok-false.ensures.same c.in-Ok-false.field-0-test ∙ inv.0,
      sym (drop-step i (hyps_for pred f.context) h others there) ∙ ap (λ n. drop n (hyps_for pred f.context)) step,
      λ p stands inputs.
          let modes = modes_of p pred in
          let known = subst (λ (ns : List Node). g.C.Clauses.stands ns c.args.code.now p) (sym (ap (λ m. code_nodes m.world) inv.0)) stands in
          let clash = picked-false _ _ c.in-Ok-false.field-0 c.in-Ok-false.field-0-test (c.in-Ok-false.ensures.answer p modes known refl inputs) in
          inv.2 p stands inputs
          ∙ assumed-clashes p m0 f c.requires.call.first pred modes i h others c.args.hyps c.args.hyps there (subst (λ m. tried_here m f modes (of_assumption i (assumption_in m.world.heap h)) ≡ Clashes) inv.0 clash)
          ∙ ap (λ n. resolved_later p m0 f pred (Assumptions n c.args.hyps) modes) step,
    )

pub loop-hyp-smaller : goal.loop-hyp-smaller
loop-hyp-smaller g c = let less = ap length c.in-Some.ensures.some in omega (arith, less)

pub returns-clause-answer : goal.returns-clause-answer
returns-clause-answer g c = λ p stands inputs.
    let inv = c.loop-hyp.invariant in
    inv.2 p stands inputs
    ∙ assumed-ends p c.args.self.now c.args.call.now.goal.now c.args.call.now.pred.0 (modes_of p c.args.call.now.pred.0) c.loop-hyp.at c.args.hyps c.requires.call.first (sym inv.1 ∙ c.in_default.ensures.none)

pub returns-clause-same : goal.returns-clause-same
returns-clause-same g c = λ e. c.loop-hyp.invariant.0

pub returns-clause-phase : goal.returns-clause-phase
returns-clause-phase g c = ap (λ m. m.phase) c.loop-hyp.invariant.0

pub returns-clause-code : goal.returns-clause-code
returns-clause-code g c = ap (λ m. code_nodes m.world) c.loop-hyp.invariant.0

pub try_assumption-requires-clause-key : goal.try_assumption-requires-clause-key
try_assumption-requires-clause-key g c = c.requires.key ∙ ap (λ m. key_of_call m.world.heap c.args.call.now) (sym c.loop-hyp.invariant.0)
