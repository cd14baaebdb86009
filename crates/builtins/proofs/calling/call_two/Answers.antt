use Rattle.std.proofs.Common.{[], ◌∷◌, MatchBool, sym, subst}
use Rattle.level_terms.specs.Reading.{read}
use Rattle.level_terms.proofs.GrowthLemmas.{grows-refl}
use Rattle.ref_terms.specs.search.Arithmetic.{less}
use Rattle.ref_terms.specs.search.Value.{term_eq}
use Rattle.beta_fragment.specs.Names.{names}
use Rattle.goal_form.specs.declared.builtin.Builtin.{Builtin}
use Rattle.builtins.specs.Outcome.{outcome, Succeeds, Fails}
use Rattle.builtins.proofs.CallLemmas.{ok-each, stays-grown, tells-answer, told-answer}
use Rattle.builtins.proofs.calling.call_two.Goals as goal

pub returns-in_ok-answer-in-Same-clause-answer : goal.returns-in_ok-answer-in-Same-clause-answer
returns-in_ok-answer-in-Same-clause-answer c =
    let s = read c.args.heap.now c.args.a.index names in
    let t = read c.args.heap.now c.args.b.index names in
    subst (λ (k : Builtin). MatchBool c.in_ok-answer-in-Same.answer (Succeeds c.args.heap.now c.is_same.new.heap c.args.depth (outcome k (s ∷ t ∷ []))) (Fails c.args.heap.now c.args.depth (outcome k (s ∷ t ∷ [])))) (sym c.in-Same.is)
    (tells-answer c.args.heap.now c.is_same.new.heap c.args.depth (term_eq s t) c.in_ok-answer-in-Same.answer c.in_ok-answer-in-Same.ensures.same (stays-grown c.args.heap.now c.is_same.new.heap c.is_sound.ensures c.is_same.ensures.variables c.is_same.ensures.grows))

pub returns-in-Less-clause-answer : goal.returns-in-Less-clause-answer
returns-in-Less-clause-answer c =
    let s = read c.args.heap.now c.args.a.index names in
    let t = read c.args.heap.now c.args.b.index names in
    ok-each _ _ c.is_less.result
    (λ b w. subst (λ (k : Builtin). MatchBool b (Succeeds c.args.heap.now c.is_less.new.heap c.args.depth (outcome k (s ∷ t ∷ []))) (Fails c.args.heap.now c.args.depth (outcome k (s ∷ t ∷ [])))) (sym c.in-Less.is)
    (told-answer c.args.heap.now c.is_less.new.heap c.args.depth (less s t) b w (stays-grown c.args.heap.now c.is_less.new.heap c.is_sound.ensures c.is_less.ensures.variables c.is_less.ensures.grows))) c.is_less.ensures.less

pub returns-in_default-clause-grows : goal.returns-in_default-clause-grows
returns-in_default-clause-grows c = grows-refl c.args.heap.now c.args.trail.now.entries
