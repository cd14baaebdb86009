use Rattle.std.proofs.Common.{◌≡◌, ◌∙◌, [], List, length, true, false, sym, subst, ap}
use Rattle.level_terms.specs.declared.node.TermId.{TermId}
use Rattle.level_terms.proofs.GrowthLemmas.{grows-refl}
use Rattle.pattern_unify.proofs.KeptLemmas.{frozen-grown, frozen-after, grows-after}
use Rattle.ref_terms.specs.search.RuleMatch.{heads_of, fit_heads}
use Rattle.sequent_rules.specs.declared.rules.HeadShape.{HeadShape}
use Rattle.sequent_rules.specs.Rules.{AreHeadShapes}
use Rattle.sequent_rules.specs.inside.Fitting.{AreArguments}
use Rattle.sequent_rules.specs.inside.Stages.{aligned_in}
use Rattle.sequent_rules.specs.inside.Tuples.{tried, tuple_in}
use Rattle.sequent_rules.proofs.AnswerLemmas.{answers-by, stops-by}
use Rattle.sequent_rules.proofs.FireLemmas.{frozen-from}
use Rattle.sequent_rules.proofs.KeptLemmas.{keeps-grown}
use Rattle.sequent_rules.proofs.MatchedLemmas.{tuple-kept, scan-grown}
use Rattle.sequent_rules.proofs.StageLemmas.{tried-fired, tried-fits}
use Rattle.sequent_rules.proofs.StepLemmas.{ok-each, err-each}
use Rattle.sequent_rules.proofs.TryLemmas.{aligned-same, match-some}
use Rattle.sequent_rules.proofs.tuple.instance.Goals as goal

pub returns-in_err-fired-clause-grows : goal.returns-in_err-fired-clause-grows
returns-in_err-fired-clause-grows g c = grows-refl c.args.heap.now c.args.trail.now.entries

pub returns-then-fired-clause-answer : goal.returns-then-fired-clause-answer
returns-then-fired-clause-answer g c = λ p r b s seen. tried-fired c.args.heap.now c.args.scan.now.store.now b seen c.args.scan.now.rule r c.args.ids.now (sym c.if-fired.true ∙ c.in_ok-fired.ensures)

pub returns-then-fired-clause-grows : goal.returns-then-fired-clause-grows
returns-then-fired-clause-grows g c = grows-refl c.args.heap.now c.args.trail.now.entries

pub returns-in_err-fit_all-clause-frozen : goal.returns-in_err-fit_all-clause-frozen
returns-in_err-fit_all-clause-frozen g c = frozen-grown c.args.heap.now c.fit_all.new.heap (length c.args.heap.now.depths) c.fit_all.ensures.gains.grows

pub align-requires-clause-scan : goal.align-requires-clause-scan
align-requires-clause-scan g c =
    let q = c.requires.scan in
    let h = c.args.heap.now in
    let h1 = c.fit_all.new.heap in
    let grows = c.fit_all.ensures.gains.grows in
    (q.0, q.1, scan-grown g.R.Rules.stands h h1 [] [] c.args.scan.now q.0 q.1 (keeps-grown h h1 c.is_sound.ensures grows) grows q.2)

pub align-requires-clause-args : goal.align-requires-clause-args
align-requires-clause-args g c =
    let q = c.requires.scan in
    let r = q.1 in
    let h = c.args.heap.now in
    let h1 = c.fit_all.new.heap in
    let log = c.args.scan.now.store.now in
    let ids = c.args.ids.now in
    let k = keeps-grown h h1 c.is_sound.ensures c.fit_all.ensures.gains.grows in
    let heads = subst (λ (hs : List HeadShape). AreHeadShapes r.variables hs (heads_of r)) (sym c.as_slice.ensures.value) q.2.shape.heads in
    let fitted = match-some c.in_ok-fit_all.field-0 (fit_heads (heads_of r) (tuple_in h log ids) ≡ false) (λ args. (fit_heads (heads_of r) (tuple_in h log ids) ≡ true) × AreArguments h1 args.items (tuple_in h log ids))
    c.in-Some.args c.in-Some.is (c.in_ok-fit_all.ensures.fit r.variables (heads_of r) heads) in
    subst (λ (tss : List (List TermId)). AreArguments h1 tss (tuple_in h1 log ids)) (sym c.as_slice-in-Some.ensures.value)
    (subst (AreArguments h1 c.in-Some.args.items) (sym (tuple-kept h h1 log ids k q.2.constraints)) fitted.1)

pub returns-in-None-clause-frozen : goal.returns-in-None-clause-frozen
returns-in-None-clause-frozen g c = frozen-grown c.args.heap.now c.fit_all.new.heap (length c.args.heap.now.depths) c.fit_all.ensures.gains.grows

pub returns-in-Some-clause-answer : goal.returns-in-Some-clause-answer
returns-in-Some-clause-answer g c =
    let h = c.args.heap.now in
    let h1 = c.fit_all.new.heap in
    let scan = c.args.scan.now in
    let log = scan.store.now in
    let ids = c.args.ids.now in
    let grows = c.fit_all.ensures.gains.grows in
    let k = keeps-grown h h1 c.is_sound.ensures grows in
    ok-each c.align.result (λ o f p r b s seen.
    let heads = subst (λ (hs : List HeadShape). AreHeadShapes r.variables hs (heads_of r)) (sym c.as_slice.ensures.value) s.shape.heads in
    let fitted = match-some c.in_ok-fit_all.field-0 (fit_heads (heads_of r) (tuple_in h log ids) ≡ false) (λ args. (fit_heads (heads_of r) (tuple_in h log ids) ≡ true) × AreArguments h1 args.items (tuple_in h log ids))
    c.in-Some.args c.in-Some.is (c.in_ok-fit_all.ensures.fit r.variables (heads_of r) heads) in
    let same = tried-fits h log b seen scan.rule r ids (sym c.if-fired.false ∙ c.in_ok-fired.ensures) fitted.0
    ∙ sym (aligned-same h h1 scan r ids c.fit_all.ensures.gains.variables (tuple-kept h h1 log ids k s.constraints)) in
    answers-by c.align.new.heap o (aligned_in h1 scan r ids) (tried b scan.rule r ids) same (f p r (scan-grown g.R.Rules.stands h h1 [] [] scan p r k grows s))) c.align.ensures.answer

pub returns-in-Some-clause-stops : goal.returns-in-Some-clause-stops
returns-in-Some-clause-stops g c =
    let h = c.args.heap.now in
    let h1 = c.fit_all.new.heap in
    let scan = c.args.scan.now in
    let log = scan.store.now in
    let ids = c.args.ids.now in
    let grows = c.fit_all.ensures.gains.grows in
    let k = keeps-grown h h1 c.is_sound.ensures grows in
    err-each c.align.result (λ stop f p r b s seen.
    let heads = subst (λ (hs : List HeadShape). AreHeadShapes r.variables hs (heads_of r)) (sym c.as_slice.ensures.value) s.shape.heads in
    let fitted = match-some c.in_ok-fit_all.field-0 (fit_heads (heads_of r) (tuple_in h log ids) ≡ false) (λ args. (fit_heads (heads_of r) (tuple_in h log ids) ≡ true) × AreArguments h1 args.items (tuple_in h log ids))
    c.in-Some.args c.in-Some.is (c.in_ok-fit_all.ensures.fit r.variables (heads_of r) heads) in
    let same = tried-fits h log b seen scan.rule r ids (sym c.if-fired.false ∙ c.in_ok-fired.ensures) fitted.0
    ∙ sym (aligned-same h h1 scan r ids c.fit_all.ensures.gains.variables (tuple-kept h h1 log ids k s.constraints)) in
    stops-by stop (aligned_in h1 scan r ids) (tried b scan.rule r ids) same (f p r (scan-grown g.R.Rules.stands h h1 [] [] scan p r k grows s))) c.align.ensures.stops

pub returns-in-Some-clause-frozen : goal.returns-in-Some-clause-frozen
returns-in-Some-clause-frozen g c =
    let h = c.args.heap.now in
    let h1 = c.fit_all.new.heap in
    let h2 = c.align.new.heap in
    let gains = c.fit_all.ensures.gains in
    frozen-after h h1 h2 (length h.depths) gains.grows (frozen-from h1 h2 (length h1.depths) (length h.depths) (ap length gains.variables) c.align.ensures.frozen)

pub returns-in-Some-clause-grows : goal.returns-in-Some-clause-grows
returns-in-Some-clause-grows g c =
    grows-after c.args.heap.now c.fit_all.new.heap c.align.new.heap c.args.trail.now.entries c.align.new.trail.entries c.fit_all.ensures.gains.grows c.align.ensures.grows
