use Rattle.std.proofs.Common.{◌∙◌, [], List, length, option_map, Option, IfSome, sym, subst, ap, arith}
use Rattle.level_terms.proofs.GrowthLemmas.{grows-refl}
use Rattle.pattern_unify.proofs.KeptLemmas.{frozen-grown, frozen-after, grows-after}
use Rattle.ref_terms.specs.declared.pair.Pair.{Pair}
use Rattle.ref_terms.specs.search.Joint.{joint}
use Rattle.ref_terms.specs.search.RuleInstance.{matched_at}
use Rattle.ref_terms.specs.unification.Unification.{unify}
use Rattle.eigen_align.specs.declared.sequent.JointNames.{JointNames}
use Rattle.eigen_align.specs.Sequents.{sequents_read, joint_read, AreSequents, FitSequents}
use Rattle.sequent_rules.specs.inside.Fitting.{AreArguments}
use Rattle.sequent_rules.specs.inside.Matched.{HaveMaps}
use Rattle.sequent_rules.specs.inside.Stages.{aligned_in, matched_in}
use Rattle.sequent_rules.specs.inside.Tuples.{tuple_in}
use Rattle.sequent_rules.proofs.AnswerLemmas.{answers-by, stops-by}
use Rattle.sequent_rules.proofs.FireLemmas.{frozen-from, deep-kept, sequents-many}
use Rattle.sequent_rules.proofs.KeptLemmas.{keeps-grown, arguments-kept}
use Rattle.sequent_rules.proofs.MatchedLemmas.{tuple-kept, scan-grown}
use Rattle.sequent_rules.proofs.StageLemmas.{joint-maps, joint-below, joint-deep}
use Rattle.sequent_rules.proofs.StepLemmas.{ok-each, err-each}
use Rattle.sequent_rules.proofs.TryLemmas.{aligned-none, aligned-by, matched-same, joint-same}
use Rattle.sequent_rules.proofs.tuple.align.Goals as goal

pub returns-in_err-sequents-clause-grows : goal.returns-in_err-sequents-clause-grows
returns-in_err-sequents-clause-grows g c = grows-refl c.args.heap.now c.args.trail.now.entries

pub returns-then-ids-eq0-clause-answer : goal.returns-then-ids-eq0-clause-answer
returns-then-ids-eq0-clause-answer g c = λ p r s. aligned-none c.args.heap.now c.args.scan.now r c.args.ids.now c.if-ids-eq0.true

pub returns-then-ids-eq0-clause-grows : goal.returns-then-ids-eq0-clause-grows
returns-then-ids-eq0-clause-grows g c = grows-refl c.args.heap.now c.args.trail.now.entries

pub joint_names-requires-clause-some : goal.joint_names-requires-clause-some
joint_names-requires-clause-some g c =
    let h = c.args.heap.now in
    let many = sequents-many h c.in_ok-sequents.sequents.items c.args.scan.now.store.now c.args.ids.now (c.in_ok-sequents.ensures.reads h) in
    let long = ap length c.as_slice.ensures.value in
    let some = c.if-ids-eq0.false in
    omega (arith, long, many, some)

pub joint_names-requires-clause-sequents : goal.joint_names-requires-clause-sequents
joint_names-requires-clause-sequents g c =
    subst (AreSequents c.args.heap.now) (sym c.as_slice.ensures.value) (c.in_ok-sequents.ensures.valid c.args.heap.now c.requires.scan.2.constraints)

pub returns-in_err-joint_names-clause-frozen : goal.returns-in_err-joint_names-clause-frozen
returns-in_err-joint_names-clause-frozen g c = frozen-grown c.args.heap.now c.joint_names.new.heap (length c.args.heap.now.depths) c.joint_names.ensures.grows

pub returns-in-None-clause-answer : goal.returns-in-None-clause-answer
returns-in-None-clause-answer g c = λ p r s.
    let h = c.args.heap.now in
    let scan = c.args.scan.now in
    let ids = c.args.ids.now in
    let reads = ap (sequents_read h) c.as_slice.ensures.value ∙ c.in_ok-sequents.ensures.reads h in
    let names = c.in_ok-joint_names.ensures.joint ∙ ap (λ (ps : List Pair). joint ps (sequents_read h c.as_slice.result.now)) (c.as_slice-2.ensures.value ∙ s.shape.pairs)
    ∙ joint-same r.pairs (tuple_in h scan.store.now ids) (sequents_read h c.as_slice.result.now) reads in
    aligned-by h scan r ids c.in_ok-joint_names.field-0 names
    ∙ ap (λ (o : Option JointNames). matched_at unify (length h.depths) r (record { rule = scan.rule; constraints = ids }) (tuple_in h scan.store.now ids) (option_map joint_read o)) c.in-None.is

pub returns-in-None-clause-frozen : goal.returns-in-None-clause-frozen
returns-in-None-clause-frozen g c = frozen-grown c.args.heap.now c.joint_names.new.heap (length c.args.heap.now.depths) c.joint_names.ensures.grows

pub matched-requires-clause-scan : goal.matched-requires-clause-scan
matched-requires-clause-scan g c =
    let q = c.requires.scan in
    let h = c.args.heap.now in
    let h1 = c.joint_names.new.heap in
    (q.0, q.1, scan-grown g.R.Rules.stands h h1 [] [] c.args.scan.now q.0 q.1 (keeps-grown h h1 c.is_sound.ensures c.joint_names.ensures.grows) c.joint_names.ensures.grows q.2)

pub matched-requires-clause-args : goal.matched-requires-clause-args
matched-requires-clause-args g c =
    let h = c.args.heap.now in
    let h1 = c.joint_names.new.heap in
    let log = c.args.scan.now.store.now in
    let k = keeps-grown h h1 c.is_sound.ensures c.joint_names.ensures.grows in
    subst (AreArguments h1 c.args.args.now) (sym (tuple-kept h h1 log c.args.ids.now k c.requires.scan.2.constraints))
    (arguments-kept h h1 k c.args.args.now (tuple_in h log c.args.ids.now) c.requires.args)

pub matched-requires-clause-maps : goal.matched-requires-clause-maps
matched-requires-clause-maps g c =
    let h = c.args.heap.now in
    let h1 = c.joint_names.new.heap in
    let log = c.args.scan.now.store.now in
    let ids = c.args.ids.now in
    let k = keeps-grown h h1 c.is_sound.ensures c.joint_names.ensures.grows in
    let reads = ap (sequents_read h) c.as_slice.ensures.value ∙ c.in_ok-sequents.ensures.reads h in
    let fit : FitSequents c.as_slice.result.now c.in-Some.joint = subst (λ (o : Option JointNames). IfSome o (λ j. FitSequents c.as_slice.result.now j)) c.in-Some.is c.in_ok-joint_names.ensures.fits in
    subst (HaveMaps c.in-Some.joint.maps.items) (sym (tuple-kept h h1 log ids k c.requires.scan.2.constraints))
    (joint-maps h c.as_slice.result.now (tuple_in h log ids) reads c.in-Some.joint fit)

pub matched-requires-clause-below : goal.matched-requires-clause-below
matched-requires-clause-below g c =
    let h = c.args.heap.now in
    let log = c.args.scan.now.store.now in
    let reads = ap (sequents_read h) c.as_slice.ensures.value ∙ c.in_ok-sequents.ensures.reads h in
    let fit : FitSequents c.as_slice.result.now c.in-Some.joint = subst (λ (o : Option JointNames). IfSome o (λ j. FitSequents c.as_slice.result.now j)) c.in-Some.is c.in_ok-joint_names.ensures.fits in
    joint-below h c.as_slice.result.now (tuple_in h log c.args.ids.now) reads c.in-Some.joint fit

pub matched-requires-clause-first : goal.matched-requires-clause-first
matched-requires-clause-first g c =
    let h = c.args.heap.now in
    let h1 = c.joint_names.new.heap in
    let log = c.args.scan.now.store.now in
    let ids = c.args.ids.now in
    let r = c.requires.scan.1 in
    let k = keeps-grown h h1 c.is_sound.ensures c.joint_names.ensures.grows in
    let reads = ap (sequents_read h) c.as_slice.ensures.value ∙ c.in_ok-sequents.ensures.reads h in
    let names = c.in_ok-joint_names.ensures.joint ∙ ap (λ (ps : List Pair). joint ps (sequents_read h c.as_slice.result.now)) (c.as_slice-2.ensures.value ∙ c.requires.scan.2.shape.pairs)
    ∙ joint-same r.pairs (tuple_in h log ids) (sequents_read h c.as_slice.result.now) reads in
    deep-kept h h1 c.in-Some.joint.depth (tuple_in h log ids) (tuple_in h1 log ids) (tuple-kept h h1 log ids k c.requires.scan.2.constraints)
    (joint-deep r.pairs (tuple_in h log ids) (joint_read c.in-Some.joint) (sym names ∙ ap (option_map joint_read) c.in-Some.is))

pub returns-clause-answer : goal.returns-clause-answer
returns-clause-answer g c =
    let h = c.args.heap.now in
    let h1 = c.joint_names.new.heap in
    let scan = c.args.scan.now in
    let ids = c.args.ids.now in
    let j = c.in-Some.joint in
    let k = keeps-grown h h1 c.is_sound.ensures c.joint_names.ensures.grows in
    let reads = ap (sequents_read h) c.as_slice.ensures.value ∙ c.in_ok-sequents.ensures.reads h in
    ok-each c.matched.result (λ o f p r s.
    let names = c.in_ok-joint_names.ensures.joint ∙ ap (λ (ps : List Pair). joint ps (sequents_read h c.as_slice.result.now)) (c.as_slice-2.ensures.value ∙ s.shape.pairs)
    ∙ joint-same r.pairs (tuple_in h scan.store.now ids) (sequents_read h c.as_slice.result.now) reads in
    let same = aligned-by h scan r ids c.in_ok-joint_names.field-0 names
    ∙ ap (λ (x : Option JointNames). matched_at unify (length h.depths) r (record { rule = scan.rule; constraints = ids }) (tuple_in h scan.store.now ids) (option_map joint_read x)) c.in-Some.is
    ∙ sym (matched-same h h1 scan r ids c.joint_names.ensures.variables (tuple-kept h h1 scan.store.now ids k s.constraints) j) in
    answers-by c.matched.new.heap o (matched_in h1 scan r ids j) (aligned_in h scan r ids) same (f p r (scan-grown g.R.Rules.stands h h1 [] [] scan p r k c.joint_names.ensures.grows s))) c.matched.ensures.answer

pub returns-clause-stops : goal.returns-clause-stops
returns-clause-stops g c =
    let h = c.args.heap.now in
    let h1 = c.joint_names.new.heap in
    let scan = c.args.scan.now in
    let ids = c.args.ids.now in
    let j = c.in-Some.joint in
    let k = keeps-grown h h1 c.is_sound.ensures c.joint_names.ensures.grows in
    let reads = ap (sequents_read h) c.as_slice.ensures.value ∙ c.in_ok-sequents.ensures.reads h in
    err-each c.matched.result (λ stop f p r s.
    let names = c.in_ok-joint_names.ensures.joint ∙ ap (λ (ps : List Pair). joint ps (sequents_read h c.as_slice.result.now)) (c.as_slice-2.ensures.value ∙ s.shape.pairs)
    ∙ joint-same r.pairs (tuple_in h scan.store.now ids) (sequents_read h c.as_slice.result.now) reads in
    let same = aligned-by h scan r ids c.in_ok-joint_names.field-0 names
    ∙ ap (λ (x : Option JointNames). matched_at unify (length h.depths) r (record { rule = scan.rule; constraints = ids }) (tuple_in h scan.store.now ids) (option_map joint_read x)) c.in-Some.is
    ∙ sym (matched-same h h1 scan r ids c.joint_names.ensures.variables (tuple-kept h h1 scan.store.now ids k s.constraints) j) in
    stops-by stop (matched_in h1 scan r ids j) (aligned_in h scan r ids) same (f p r (scan-grown g.R.Rules.stands h h1 [] [] scan p r k c.joint_names.ensures.grows s))) c.matched.ensures.stops

pub returns-clause-frozen : goal.returns-clause-frozen
returns-clause-frozen g c =
    let h = c.args.heap.now in
    let h1 = c.joint_names.new.heap in
    let h2 = c.matched.new.heap in
    frozen-after h h1 h2 (length h.depths) c.joint_names.ensures.grows (frozen-from h1 h2 (length h1.depths) (length h.depths) (ap length c.joint_names.ensures.variables) c.matched.ensures.frozen)

pub returns-clause-grows : goal.returns-clause-grows
returns-clause-grows g c = grows-after c.args.heap.now c.joint_names.new.heap c.matched.new.heap c.args.trail.now.entries c.matched.new.trail.entries c.joint_names.ensures.grows c.matched.ensures.grows
