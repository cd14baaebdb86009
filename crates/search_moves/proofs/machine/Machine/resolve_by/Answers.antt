use Rattle.std.proofs.Common.{◌≡◌, None, List, MatchBool, sym, ap, ◌∙◌, subst}
use Rattle.level_terms.specs.declared.node.Node.{Node}
use Rattle.ref_terms.specs.search.Program.{modes_of}
use Rattle.search_moves.specs.declared.frame.Later.TheVariants.{Assumptions}
use Rattle.search_moves.specs.Calling.{key_of_call, IsCall, resolved_from, resolved_later, HasResolved, HasResolvedLater, ResolvedStops}
use Rattle.search_moves.proofs.SolveLemmas.{picked-true, picked-false}
use Rattle.search_moves.proofs.HeadLemmas.{both-ways}
use Rattle.search_moves.proofs.AssumeTries.{resolved-program, stops-before}
use Rattle.search_moves.proofs.machine.Machine.resolve_by.Goals as goal

pub returns-in-Ok-true-clause-answer : goal.returns-in-Ok-true-clause-answer
returns-in-Ok-true-clause-answer g c = λ p stands inputs. picked-true _ _ c.in-Ok-true.field-0 c.in-Ok-true.field-0-test (c.in-Ok-true.ensures.answer p stands inputs)

pub resolve-requires-clause-code : goal.resolve-requires-clause-code
resolve-requires-clause-code g c = (c.requires.code.0, subst (λ (ns : List Node). g.C.Clauses.stands ns c.args.code.now c.requires.code.0) (sym c.resolve_assumptions.ensures.code) c.requires.code.1)

pub resolve-requires-clause-call : goal.resolve-requires-clause-call
resolve-requires-clause-call g c = subst (λ m. IsCall m c.args.call.now) (sym (c.in-Ok-false.ensures.same c.in-Ok-false.field-0-test)) c.requires.call

pub returns-in-Ok-clause-answer : goal.returns-in-Ok-clause-answer
returns-in-Ok-clause-answer g c = λ p stands inputs.
    let m0 = c.args.self.now in
    let new = c.resolve.new.self in
    let f = c.args.call.now.goal.now in
    let pred = c.args.call.now.pred.0 in
    let modes = modes_of p pred in
    let there = subst (λ (ns : List Node). g.C.Clauses.stands ns c.args.code.now p) (sym c.resolve_assumptions.ensures.code) stands in
    let clash = picked-false _ _ c.in-Ok-false.field-0 c.in-Ok-false.field-0-test (c.in-Ok-false.ensures.answer p stands inputs) in
    let here = subst (λ m. MatchBool c.in-Ok.fits (HasResolved p m new f pred 0 modes) (resolved_from m f p.clauses pred 0 modes ≡ None)) (c.in-Ok-false.ensures.same c.in-Ok-false.field-0-test) (c.in-Ok.ensures.answer p there inputs) in
    both-ways (HasResolved p m0 new f pred 0 modes) (HasResolvedLater p m0 new f pred (Assumptions c.args.place c.args.hyps) modes)
    (resolved_from m0 f p.clauses pred 0 modes ≡ None) (resolved_later p m0 f pred (Assumptions c.args.place c.args.hyps) modes ≡ None) c.in-Ok.fits
    (resolved-program p m0 new f pred modes c.args.place c.args.hyps clash) (λ none. clash ∙ none) here

pub returns-in-Ok-clause-same : goal.returns-in-Ok-clause-same
returns-in-Ok-clause-same g c = λ no. c.in-Ok.ensures.same no ∙ c.in-Ok-false.ensures.same c.in-Ok-false.field-0-test

pub returns-in-Err-resolve-clause-stops : goal.returns-in-Err-resolve-clause-stops
returns-in-Err-resolve-clause-stops g c = λ p stands inputs.
    let m0 = c.args.self.now in
    let f = c.args.call.now.goal.now in
    let pred = c.args.call.now.pred.0 in
    let modes = modes_of p pred in
    let there = subst (λ (ns : List Node). g.C.Clauses.stands ns c.args.code.now p) (sym c.resolve_assumptions.ensures.code) stands in
    let clash = picked-false _ _ c.in-Ok-false.field-0 c.in-Ok-false.field-0-test (c.in-Ok-false.ensures.answer p stands inputs) in
    stops-before (resolved_later p m0 f pred (Assumptions c.args.place c.args.hyps) modes) (resolved_from m0 f p.clauses pred 0 modes) c.in-Err-resolve.stop clash
    (subst (λ m. ResolvedStops (resolved_from m f p.clauses pred 0 modes) c.in-Err-resolve.stop) (c.in-Ok-false.ensures.same c.in-Ok-false.field-0-test) (c.in-Err-resolve.ensures.stops p there inputs))

pub resolve-requires-clause-key : goal.resolve-requires-clause-key
resolve-requires-clause-key g c = c.requires.key ∙ ap (λ m. key_of_call m.world.heap c.args.call.now) (sym (c.in-Ok-false.ensures.same c.in-Ok-false.field-0-test))
