use Rattle.std.proofs.Common.{◌≡◌, ◌∷◌, ◌∙◌, [], List, length, Option, MatchOption, refl, sym, ap, subst, arith}
use Rattle.level_terms.specs.declared.node.Node.{Node}
use Rattle.ref_terms.specs.unification.Unification.{unify}
use Rattle.ref_terms.specs.search.State.{Move}
use Rattle.ref_terms.specs.search.Next.{retry}
use Rattle.search_moves.specs.declared.frame.Saved.{Saved}
use Rattle.search_moves.specs.World.{code_nodes}
use Rattle.search_moves.specs.Reading.{alternatives_in, left_at}
use Rattle.search_moves.specs.declared.machine.Event.{Event}
use Rattle.search_moves.specs.Machine.{branch_of, alternatives_of, HasMoved}
use Rattle.search_moves.proofs.MoveLemmas.{exhausted, moved-as}
use Rattle.search_moves.proofs.machine.Machine.retry.Goals as goal

pub loop-left-init : goal.loop-left-init
loop-left-init g c = (refl, λ p stands. refl)

pub take_up-requires-clause-code : goal.take_up-requires-clause-code
take_up-requires-clause-code g c =
    (c.requires.code.0, subst (λ (ns : List Node). g.C.Clauses.stands ns c.args.code.now c.requires.code.0) (sym (c.back.ensures.code ∙ c.loop-left.invariant.0)) c.requires.code.1)

pub returns-in-Ok-Some-clause-moved : goal.returns-in-Ok-Some-clause-moved
returns-in-Ok-Some-clause-moved g c = λ p stands.
    let there = subst (λ (ns : List Node). g.C.Clauses.stands ns c.args.code.now p) (sym (c.back.ensures.code ∙ c.loop-left.invariant.0)) stands in
    let taken : Move = retry unify p (left_at p (branch_of c.back.new.self) c.in-Some.left ∷ alternatives_of p c.back.new.self) in
    moved-as p (retry unify p (alternatives_of p c.args.self.now)) taken c.in-Ok-Some.event c.take_up.new.self (c.loop-left.invariant.1 p stands ∙ ap (retry unify p) (c.in-Some.ensures.some p))
    (subst (λ (o : Option Event). MatchOption o (taken ≡ retry unify p (alternatives_of p c.take_up.new.self)) (λ e. HasMoved p taken e c.take_up.new.self)) c.in-Ok-Some.field-0-is (c.in-Ok-Some.ensures.moved p there))

pub returns-in-Ok-Some-clause-code : goal.returns-in-Ok-Some-clause-code
returns-in-Ok-Some-clause-code g c = c.take_up.ensures.code ∙ c.back.ensures.code ∙ c.loop-left.invariant.0

pub returns-in-Err-clause-code : goal.returns-in-Err-clause-code
returns-in-Err-clause-code g c = c.take_up.ensures.code ∙ c.back.ensures.code ∙ c.loop-left.invariant.0

pub loop-left-preserved : goal.loop-left-preserved
loop-left-preserved g c = (
  c.take_up.ensures.code ∙ c.back.ensures.code ∙ c.loop-left.invariant.0,
  λ p stands.
      let there = subst (λ (ns : List Node). g.C.Clauses.stands ns c.args.code.now p) (sym (c.back.ensures.code ∙ c.loop-left.invariant.0)) stands in
      let taken : Move = retry unify p (left_at p (branch_of c.back.new.self) c.in-Some.left ∷ alternatives_of p c.back.new.self) in
      c.loop-left.invariant.1 p stands ∙ ap (retry unify p) (c.in-Some.ensures.some p)
      ∙ subst (λ (o : Option Event). MatchOption o (taken ≡ retry unify p (alternatives_of p c.take_up.new.self)) (λ e. HasMoved p taken e c.take_up.new.self)) c.in-Ok-None.field-0-is (c.in-Ok-None.ensures.moved p there),
)

pub loop-left-smaller : goal.loop-left-smaller
loop-left-smaller g c =
    let same = ap (λ (xs : List Saved). length xs) (c.in-Ok-None.ensures.saved c.in-Ok-None.field-0-is) in
    omega (arith, same, c.in-Some.ensures.fewer)

pub returns-clause-moved : goal.returns-clause-moved
returns-clause-moved g c = λ p stands.
    let none = c.in_default.ensures.none in
    let empty : alternatives_of p c.loop-left.self ≡ [] = ap (alternatives_in p c.loop-left.self.world) none.0 in
    moved-as p (retry unify p (alternatives_of p c.args.self.now)) _ _ c.set_phase.new.self (c.loop-left.invariant.1 p stands ∙ ap (retry unify p) empty) (exhausted p c.set_phase.new.self (ap (λ m. m.phase) c.set_phase.ensures))

pub returns-clause-code : goal.returns-clause-code
returns-clause-code g c = ap (λ m. code_nodes m.world) c.set_phase.ensures ∙ c.back.ensures.code ∙ c.loop-left.invariant.0
