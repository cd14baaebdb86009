use Rattle.std.proofs.Common.{◌≡◌, ◌<◌, ◌+◌, suc, List, drop, refl, sym, ap, ◌∙◌, subst, arith}
use Rattle.std.proofs.lemmas.Option.{slice_get_within}
use Rattle.level_terms.specs.declared.node.Node.{Node}
use Rattle.clause_key.specs.Passing.{IsNextFor}
use Rattle.ref_terms.specs.search.Program.{modes_of}
use Rattle.ref_terms.specs.search.Candidates.{program_candidates}
use Rattle.ref_terms.specs.search.State.{of_program}
use Rattle.ref_terms.specs.search.Resolve.{Clashes}
use Rattle.search_moves.specs.World.{code_nodes}
use Rattle.search_moves.specs.Calling.{IsCall, HasEntered, BreaksSo, tried_here, IsTryingNext}
use Rattle.search_moves.proofs.SolveLemmas.{picked-true, picked-false}
use Rattle.search_moves.proofs.TryLemmas.{left_to_try, trying-starts, trying-goes, trying-fits, trying-breaks, trying-falls, left-at}
use Rattle.search_moves.proofs.machine.Machine.resolve.Goals as goal

pub loop-next-init : goal.loop-next-init
loop-next-init g c = (refl, λ p stands. trying-starts p c.args.self.now c.args.call.now c.law_disagreeing_clause_clashes.ensures.clashes c.requires.call c.args.key c.requires.key c.args.from c.next_clause-next.result (c.next_clause-next.ensures _ p stands))

pub try_clause-requires-clause-code : goal.try_clause-requires-clause-code
try_clause-requires-clause-code g c =
    let p = c.requires.code.0 in
    let stands = c.requires.code.1 in
    let inv = c.loop-next.invariant in
    let there = subst (λ (ns : List Node). g.C.Clauses.stands ns c.args.code.now p) (sym (ap (λ m. code_nodes m.world) inv.0)) stands in
    let t = subst (IsTryingNext p c.args.self.now c.args.call.now c.args.from) c.in-Some.is (inv.1 p stands) in
    (p, there, slice_get_within p.clauses c.in-Some.clause t.clause t.here)

pub try_clause-requires-clause-call : goal.try_clause-requires-clause-call
try_clause-requires-clause-call g c = subst (λ m. IsCall m c.args.call.now) (sym c.loop-next.invariant.0) c.requires.call

pub returns-in-Ok-true-clause-answer : goal.returns-in-Ok-true-clause-answer
returns-in-Ok-true-clause-answer g c = λ p stands inputs.
    let inv = c.loop-next.invariant in
    let there = subst (λ (ns : List Node). g.C.Clauses.stands ns c.args.code.now p) (sym (ap (λ m. code_nodes m.world) inv.0)) stands in
    let t = subst (IsTryingNext p c.args.self.now c.args.call.now c.args.from) c.in-Some.is (inv.1 p stands) in
    let entered = picked-true _ _ c.in-Ok-true.field-0 c.in-Ok-true.field-0-test (c.in-Ok-true.ensures.answer p t.clause (modes_of p c.args.call.now.pred.0) there t.here (left-at p c.args.self.now c.args.call.now c.law_disagreeing_clause_clashes.ensures.clashes c.requires.call c.args.key c.requires.key c.loop-next.self c.in-Some.clause (c.in-Some.clause + 1) c.next_clause-following.result c.left_from-later.result inv.0 (let one : c.in-Some.clause + 1 ≡ suc c.in-Some.clause = omega arith in one) c.left_from-later.ensures (c.next_clause-following.ensures _ p stands) inputs) inputs) in
    trying-fits p c.args.self.now c.args.call.now c.args.from c.in-Some.clause t inputs c.try_clause.new.self
    (subst (λ m. HasEntered p m c.try_clause.new.self c.args.call.now.goal.now (modes_of p c.args.call.now.pred.0) (of_program c.in-Some.clause t.clause) (program_candidates c.args.call.now.pred.0 (suc c.in-Some.clause) (drop (suc c.in-Some.clause) p.clauses))) inv.0 entered)

pub returns-in-Ok-true-clause-phase : goal.returns-in-Ok-true-clause-phase
returns-in-Ok-true-clause-phase g c = c.try_clause.ensures.phase ∙ ap (λ m. m.phase) c.loop-next.invariant.0

pub returns-in-Ok-true-clause-code : goal.returns-in-Ok-true-clause-code
returns-in-Ok-true-clause-code g c = c.try_clause.ensures.code ∙ ap (λ m. code_nodes m.world) c.loop-next.invariant.0

pub returns-in-Err-clause-stops : goal.returns-in-Err-clause-stops
returns-in-Err-clause-stops g c = λ p stands inputs.
    let inv = c.loop-next.invariant in
    let there = subst (λ (ns : List Node). g.C.Clauses.stands ns c.args.code.now p) (sym (ap (λ m. code_nodes m.world) inv.0)) stands in
    let t = subst (IsTryingNext p c.args.self.now c.args.call.now c.args.from) c.in-Some.is (inv.1 p stands) in
    trying-breaks p c.args.self.now c.args.call.now c.args.from c.in-Some.clause t inputs c.in-Err.stop
    (subst (λ m. BreaksSo (tried_here m c.args.call.now.goal.now (modes_of p c.args.call.now.pred.0) (of_program c.in-Some.clause t.clause)) c.in-Err.stop) inv.0
    (c.in-Err.ensures.stops p t.clause (modes_of p c.args.call.now.pred.0) there t.here inputs))

pub returns-in-Err-clause-phase : goal.returns-in-Err-clause-phase
returns-in-Err-clause-phase g c = c.try_clause.ensures.phase ∙ ap (λ m. m.phase) c.loop-next.invariant.0

pub returns-in-Err-clause-code : goal.returns-in-Err-clause-code
returns-in-Err-clause-code g c = c.try_clause.ensures.code ∙ ap (λ m. code_nodes m.world) c.loop-next.invariant.0

pub overflow_add-place : goal.overflow_add-place
overflow_add-place g c =
    let p = c.requires.code.0 in
    let stands = c.requires.code.1 in
    let t = subst (IsTryingNext p c.args.self.now c.args.call.now c.args.from) c.in-Some.is (c.loop-next.invariant.1 p stands) in
    let high = slice_get_within p.clauses c.in-Some.clause t.clause t.here in
    let count = c.clauses-count.ensures _ p stands in
    omega (arith, c.clauses-count.type_inv, count, high)

pub loop-next-preserved : goal.loop-next-preserved
loop-next-preserved g c = (
  c.in-Ok-false.ensures.same c.in-Ok-false.field-0-test ∙ c.loop-next.invariant.0,
  λ p stands.
      let inv = c.loop-next.invariant in
      let there = subst (λ (ns : List Node). g.C.Clauses.stands ns c.args.code.now p) (sym (ap (λ m. code_nodes m.world) inv.0)) stands in
      let t = subst (IsTryingNext p c.args.self.now c.args.call.now c.args.from) c.in-Some.is (inv.1 p stands) in
      let one : c.in-Some.clause + 1 ≡ suc c.in-Some.clause = omega arith in
      trying-goes p c.args.self.now c.args.call.now c.law_disagreeing_clause_clashes.ensures.clashes c.requires.call c.args.key c.requires.key c.args.from c.in-Some.clause c.next_clause-following.result t
      (subst (λ n. IsNextFor p c.args.call.now.pred.0 c.args.key n c.next_clause-following.result) one (c.next_clause-following.ensures _ p stands))
      (λ inputs. subst (λ m. tried_here m c.args.call.now.goal.now (modes_of p c.args.call.now.pred.0) (of_program c.in-Some.clause t.clause) ≡ Clashes) inv.0
      (picked-false _ _ c.in-Ok-false.field-0 c.in-Ok-false.field-0-test (c.in-Ok-false.ensures.answer p t.clause (modes_of p c.args.call.now.pred.0) there t.here (left-at p c.args.self.now c.args.call.now c.law_disagreeing_clause_clashes.ensures.clashes c.requires.call c.args.key c.requires.key c.loop-next.self c.in-Some.clause (c.in-Some.clause + 1) c.next_clause-following.result c.left_from-later.result inv.0 (let one : c.in-Some.clause + 1 ≡ suc c.in-Some.clause = omega arith in one) c.left_from-later.ensures (c.next_clause-following.ensures _ p stands) inputs) inputs))),
)

pub loop-next-smaller : goal.loop-next-smaller
loop-next-smaller g c =
    let p = c.requires.code.0 in
    let stands = c.requires.code.1 in
    let inv = c.loop-next.invariant in
    let t = subst (IsTryingNext p c.args.self.now c.args.call.now c.args.from) c.in-Some.is (inv.1 p stands) in
    let one : c.in-Some.clause + 1 ≡ suc c.in-Some.clause = omega arith in
    subst (λ n. left_to_try c.clauses-count.result c.next_clause-following.result < left_to_try c.clauses-count.result n) (sym c.in-Some.is)
    (trying-falls p c.args.self.now c.args.call.now c.args.from c.in-Some.clause c.clauses-count.result c.args.key c.next_clause-following.result (c.clauses-count.ensures _ p stands) t
    (subst (λ n. IsNextFor p c.args.call.now.pred.0 c.args.key n c.next_clause-following.result) one (c.next_clause-following.ensures _ p stands)))

pub returns-clause-answer : goal.returns-clause-answer
returns-clause-answer g c = λ p stands inputs.
    subst (IsTryingNext p c.args.self.now c.args.call.now c.args.from) c.in_default.is (c.loop-next.invariant.1 p stands) inputs

pub returns-clause-same : goal.returns-clause-same
returns-clause-same g c = λ e. c.loop-next.invariant.0

pub returns-clause-phase : goal.returns-clause-phase
returns-clause-phase g c = ap (λ m. m.phase) c.loop-next.invariant.0

pub returns-clause-code : goal.returns-clause-code
returns-clause-code g c = ap (λ m. code_nodes m.world) c.loop-next.invariant.0
