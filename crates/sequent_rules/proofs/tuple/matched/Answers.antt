use Rattle.std.proofs.Common.{◌∙◌, [], List, length, ap}
use Rattle.level_terms.proofs.GainLemmas.{gains-grows}
use Rattle.level_terms.proofs.GrowthLemmas.{grows-trans}
use Rattle.pattern_unify.specs.Answers.{AnswersTrue, AnswersFalse}
use Rattle.pattern_unify.proofs.KeptLemmas.{frozen-grown, frozen-trans, frozen-after, grows-after}
use Rattle.ref_terms.specs.search.Branch.{Constraint}
use Rattle.ref_terms.specs.search.RuleMatch.{heads_of, match_equations}
use Rattle.suspend.specs.Store.{stored}
use Rattle.sequent_rules.specs.declared.equations.Tuple.{Tuple}
use Rattle.sequent_rules.specs.inside.Equations.{equations_in, problem_of_all}
use Rattle.sequent_rules.specs.inside.Stages.{matched_in, fired_in}
use Rattle.sequent_rules.specs.inside.Tuples.{tuple_in}
use Rattle.sequent_rules.proofs.AnswerLemmas.{answers-by, stops-by}
use Rattle.sequent_rules.proofs.FireLemmas.{match-goes, match-clashes, stops-matched, frozen-from, deep-kept}
use Rattle.sequent_rules.proofs.KeptLemmas.{keeps-grown, keeps-frozen, sequents-valid}
use Rattle.sequent_rules.proofs.MatchedLemmas.{tuple-kept, tuple-made}
use Rattle.sequent_rules.proofs.StageLemmas.{instance-matched}
use Rattle.sequent_rules.proofs.StepLemmas.{ok-each, err-each}
use Rattle.sequent_rules.proofs.TryLemmas.{match-true, match-false}
use Rattle.sequent_rules.proofs.tuple.matched.Goals as goal

pub returns-in_err-made-clause-frozen : goal.returns-in_err-made-clause-frozen
returns-in_err-made-clause-frozen g c =
    frozen-grown c.args.heap.now c.instance.new.heap (length c.args.heap.now.depths) c.instance.ensures.grows

pub equations_of_heads-requires : goal.equations_of_heads-requires
equations_of_heads-requires g c =
    let q = c.requires.scan in
    let h0 = c.args.heap.now in
    let h1 = c.instance.new.heap in
    record {
      tuple = (
        length h0.depths,
        q.1,
        tuple-made h0 h1 _ q.1 c.is_sound.ensures c.instance.ensures.grows q.2.shape c.requires.stored q.2.constraints c.requires.args c.requires.maps c.requires.below c.requires.count
            (c.in_ok-made.ensures.made q.0 q.1 q.2.code q.2.rule),
      );
    }

pub returns-in_err-equations-clause-frozen : goal.returns-in_err-equations-clause-frozen
returns-in_err-equations-clause-frozen g c =
    let h0 = c.args.heap.now in
    let h1 = c.instance.new.heap in
    let h2 = c.equations_of_heads.new.heap in
    frozen-trans h0 h1 h2 (length h0.depths) (frozen-grown h0 h1 (length h0.depths) c.instance.ensures.grows) (frozen-grown h1 h2 (length h0.depths) c.equations_of_heads.ensures.gains.grows)

pub returns-in_err-equations-clause-grows : goal.returns-in_err-equations-clause-grows
returns-in_err-equations-clause-grows g c =
    let h0 = c.args.heap.now in
    let h1 = c.instance.new.heap in
    let h2 = c.equations_of_heads.new.heap in
    let s = c.args.trail.now.entries in
    grows-after h0 h1 h2 s s c.instance.ensures.grows (gains-grows h1 h2 s c.equations_of_heads.ensures.gains)

pub fire-requires-clause-matched : goal.fire-requires-clause-matched
fire-requires-clause-matched g c =
    let q = c.requires.scan in
    let h0 = c.args.heap.now in
    let h1 = c.instance.new.heap in
    let h2 = c.equations_of_heads.new.heap in
    let h3 = c.match_all.new.heap in
    let log = c.args.scan.now.store.now in
    let ids = c.args.ids.now in
    let depth = c.args.joint.now.depth in
    let gains = c.equations_of_heads.ensures.gains in
    let a = match-true c.in-Ok-true.field-0 (AnswersTrue c.next_var-first_fresh.result.index h2 h3 (problem_of_all h2 depth c.as_slice.result.now)) (AnswersFalse c.next_var-first_fresh.result.index (problem_of_all h2 depth c.as_slice.result.now))
    c.in-Ok-true.field-0-test c.in-Ok-true.ensures.answer in (
      a.0.bindings,
      length h0.depths,
      q.1,
      instance-matched h0 h1 h2 h3 c.args.trail.now.entries c.match_all.new.trail.entries a.0.bindings depth q.1 c.in_ok-made.made (c.in_ok-made.ensures.made q.0 q.1 q.2.code q.2.rule)
          (keeps-grown h1 h2 c.is_sound-2.ensures gains.grows) c.is_sound-3.ensures c.match_all.ensures.grows a.2.readings,
      q.2.shape,
    )

pub fire-requires-clause-constraints : goal.fire-requires-clause-constraints
fire-requires-clause-constraints g c =
    let h0 = c.args.heap.now in
    let h1 = c.instance.new.heap in
    let h2 = c.equations_of_heads.new.heap in
    let h3 = c.match_all.new.heap in
    let gains = c.equations_of_heads.ensures.gains in
    let grows2 = grows-after h0 h1 h2 [] [] c.instance.ensures.grows gains.grows in
    let frozen3 = frozen-after h0 h2 h3 (length h0.depths) grows2 (frozen-from h2 h3 c.next_var-first_fresh.result.index (length h0.depths) c.next_var-first_fresh.ensures c.match_all.ensures.frozen) in
    let grows3 = grows-after h0 h2 h3 c.args.trail.now.entries c.match_all.new.trail.entries grows2 c.match_all.ensures.grows in
    let kept3 = keeps-frozen h0 h3 c.args.trail.now.entries c.match_all.new.trail.entries c.is_sound.ensures c.is_sound-in-Ok-true.ensures grows3 frozen3 in
    sequents-valid h0 h3 kept3 (stored c.args.scan.now.store.now) c.requires.scan.2.constraints

pub fire-requires-clause-first : goal.fire-requires-clause-first
fire-requires-clause-first g c =
    let h0 = c.args.heap.now in
    let h1 = c.instance.new.heap in
    let h2 = c.equations_of_heads.new.heap in
    let h3 = c.match_all.new.heap in
    let log = c.args.scan.now.store.now in
    let ids = c.args.ids.now in
    let depth = c.args.joint.now.depth in
    let gains = c.equations_of_heads.ensures.gains in
    let grows2 = grows-after h0 h1 h2 [] [] c.instance.ensures.grows gains.grows in
    let frozen3 = frozen-after h0 h2 h3 (length h0.depths) grows2 (frozen-from h2 h3 c.next_var-first_fresh.result.index (length h0.depths) c.next_var-first_fresh.ensures c.match_all.ensures.frozen) in
    let grows3 = grows-after h0 h2 h3 c.args.trail.now.entries c.match_all.new.trail.entries grows2 c.match_all.ensures.grows in
    let kept3 = keeps-frozen h0 h3 c.args.trail.now.entries c.match_all.new.trail.entries c.is_sound.ensures c.is_sound-in-Ok-true.ensures grows3 frozen3 in
    deep-kept h0 h3 depth (tuple_in h0 log ids) (tuple_in h3 log ids) (tuple-kept h0 h3 log ids kept3 c.requires.scan.2.constraints) c.requires.first

pub returns-in-Ok-true-clause-answer : goal.returns-in-Ok-true-clause-answer
returns-in-Ok-true-clause-answer g c =
    let h0 = c.args.heap.now in
    let h1 = c.instance.new.heap in
    let h2 = c.equations_of_heads.new.heap in
    let h3 = c.match_all.new.heap in
    let log = c.args.scan.now.store.now in
    let ids = c.args.ids.now in
    let depth = c.args.joint.now.depth in
    let gains = c.equations_of_heads.ensures.gains in
    let grows2 = grows-after h0 h1 h2 [] [] c.instance.ensures.grows gains.grows in
    let frozen3 = frozen-after h0 h2 h3 (length h0.depths) grows2 (frozen-from h2 h3 c.next_var-first_fresh.result.index (length h0.depths) c.next_var-first_fresh.ensures c.match_all.ensures.frozen) in
    let grows3 = grows-after h0 h2 h3 c.args.trail.now.entries c.match_all.new.trail.entries grows2 c.match_all.ensures.grows in
    let kept3 = keeps-frozen h0 h3 c.args.trail.now.entries c.match_all.new.trail.entries c.is_sound.ensures c.is_sound-in-Ok-true.ensures grows3 frozen3 in
    let t : Tuple = record { store = c.args.scan.now.store; shape = c.args.scan.now.shape; ids = c.args.ids; args = c.args.args; joint = c.args.joint; made = record { ref_ptr = c.args.joint.ref_ptr; now = c.in_ok-made.made } } in
    let first = c.next_var-first_fresh.result.index in
    let es = c.as_slice.result.now in
    let problem = problem_of_all h2 depth es in
    let a = match-true c.in-Ok-true.field-0 (AnswersTrue first h2 h3 problem) (AnswersFalse first problem) c.in-Ok-true.field-0-test c.in-Ok-true.ensures.answer in
    ok-each c.fire.result (λ o f p r s.
    let made = c.in_ok-made.ensures.made p r s.code s.rule in
    let is_tuple = tuple-made h0 h1 _ r c.is_sound.ensures c.instance.ensures.grows s.shape c.requires.stored s.constraints c.requires.args c.requires.maps c.requires.below c.requires.count made in
    let kept1 = keeps-grown h0 h1 c.is_sound.ensures c.instance.ensures.grows in
    let reads = ap (equations_in h2 depth) c.as_slice.ensures.value ∙ c.in_ok-equations.ensures.reads (length h0.depths) r is_tuple
    ∙ ap (λ (cs : List Constraint). match_equations r depth (length h0.depths) (heads_of r) c.args.joint.now.maps.items cs) (tuple-kept h0 h1 log ids kept1 s.constraints) in
    let count = ap length gains.variables ∙ made.next in
    let same = match-goes h0 h2 t c.args.scan.now.rule first r es c.next_var-first_fresh.ensures count reads h3 a.0 a.1 a.2.variables (tuple-kept h0 h3 log ids kept3 s.constraints) in
    let matched = instance-matched h0 h1 h2 h3 c.args.trail.now.entries c.match_all.new.trail.entries a.0.bindings depth r c.in_ok-made.made made (keeps-grown h1 h2 c.is_sound-2.ensures gains.grows) c.is_sound-3.ensures c.match_all.ensures.grows a.2.readings in
    answers-by c.fire.new.heap o (fired_in h3 t c.args.scan.now.rule a.0.bindings (length h0.depths) r) (matched_in h0 c.args.scan.now r ids c.args.joint.now) same (f a.0.bindings (length h0.depths) r matched s.shape)) c.fire.ensures.answer

pub returns-in-Ok-true-clause-stops : goal.returns-in-Ok-true-clause-stops
returns-in-Ok-true-clause-stops g c =
    let h0 = c.args.heap.now in
    let h1 = c.instance.new.heap in
    let h2 = c.equations_of_heads.new.heap in
    let h3 = c.match_all.new.heap in
    let log = c.args.scan.now.store.now in
    let ids = c.args.ids.now in
    let depth = c.args.joint.now.depth in
    let gains = c.equations_of_heads.ensures.gains in
    let grows2 = grows-after h0 h1 h2 [] [] c.instance.ensures.grows gains.grows in
    let frozen3 = frozen-after h0 h2 h3 (length h0.depths) grows2 (frozen-from h2 h3 c.next_var-first_fresh.result.index (length h0.depths) c.next_var-first_fresh.ensures c.match_all.ensures.frozen) in
    let grows3 = grows-after h0 h2 h3 c.args.trail.now.entries c.match_all.new.trail.entries grows2 c.match_all.ensures.grows in
    let kept3 = keeps-frozen h0 h3 c.args.trail.now.entries c.match_all.new.trail.entries c.is_sound.ensures c.is_sound-in-Ok-true.ensures grows3 frozen3 in
    let t : Tuple = record { store = c.args.scan.now.store; shape = c.args.scan.now.shape; ids = c.args.ids; args = c.args.args; joint = c.args.joint; made = record { ref_ptr = c.args.joint.ref_ptr; now = c.in_ok-made.made } } in
    let first = c.next_var-first_fresh.result.index in
    let es = c.as_slice.result.now in
    let problem = problem_of_all h2 depth es in
    let a = match-true c.in-Ok-true.field-0 (AnswersTrue first h2 h3 problem) (AnswersFalse first problem) c.in-Ok-true.field-0-test c.in-Ok-true.ensures.answer in
    err-each c.fire.result (λ stop f p r s.
    let made = c.in_ok-made.ensures.made p r s.code s.rule in
    let is_tuple = tuple-made h0 h1 _ r c.is_sound.ensures c.instance.ensures.grows s.shape c.requires.stored s.constraints c.requires.args c.requires.maps c.requires.below c.requires.count made in
    let kept1 = keeps-grown h0 h1 c.is_sound.ensures c.instance.ensures.grows in
    let reads = ap (equations_in h2 depth) c.as_slice.ensures.value ∙ c.in_ok-equations.ensures.reads (length h0.depths) r is_tuple
    ∙ ap (λ (cs : List Constraint). match_equations r depth (length h0.depths) (heads_of r) c.args.joint.now.maps.items cs) (tuple-kept h0 h1 log ids kept1 s.constraints) in
    let count = ap length gains.variables ∙ made.next in
    let same = match-goes h0 h2 t c.args.scan.now.rule first r es c.next_var-first_fresh.ensures count reads h3 a.0 a.1 a.2.variables (tuple-kept h0 h3 log ids kept3 s.constraints) in
    let matched = instance-matched h0 h1 h2 h3 c.args.trail.now.entries c.match_all.new.trail.entries a.0.bindings depth r c.in_ok-made.made made (keeps-grown h1 h2 c.is_sound-2.ensures gains.grows) c.is_sound-3.ensures c.match_all.ensures.grows a.2.readings in
    stops-by stop (fired_in h3 t c.args.scan.now.rule a.0.bindings (length h0.depths) r) (matched_in h0 c.args.scan.now r ids c.args.joint.now) same (f a.0.bindings (length h0.depths) r matched s.shape)) c.fire.ensures.stops

pub returns-in-Ok-true-clause-frozen : goal.returns-in-Ok-true-clause-frozen
returns-in-Ok-true-clause-frozen g c =
    let h0 = c.args.heap.now in
    let h1 = c.instance.new.heap in
    let h2 = c.equations_of_heads.new.heap in
    let h3 = c.match_all.new.heap in
    let gains = c.equations_of_heads.ensures.gains in
    let grows2 = grows-after h0 h1 h2 [] [] c.instance.ensures.grows gains.grows in
    let frozen3 = frozen-after h0 h2 h3 (length h0.depths) grows2 (frozen-from h2 h3 c.next_var-first_fresh.result.index (length h0.depths) c.next_var-first_fresh.ensures c.match_all.ensures.frozen) in
    let grows3 = grows-after h0 h2 h3 c.args.trail.now.entries c.match_all.new.trail.entries grows2 c.match_all.ensures.grows in
    frozen-trans h0 h3 c.fire.new.heap (length h0.depths) frozen3 (frozen-grown h3 c.fire.new.heap (length h0.depths) c.fire.ensures.gains.grows)

pub returns-in-Ok-true-clause-grows : goal.returns-in-Ok-true-clause-grows
returns-in-Ok-true-clause-grows g c =
    let h0 = c.args.heap.now in
    let h1 = c.instance.new.heap in
    let h2 = c.equations_of_heads.new.heap in
    let h3 = c.match_all.new.heap in
    let gains = c.equations_of_heads.ensures.gains in
    let grows2 = grows-after h0 h1 h2 [] [] c.instance.ensures.grows gains.grows in
    let frozen3 = frozen-after h0 h2 h3 (length h0.depths) grows2 (frozen-from h2 h3 c.next_var-first_fresh.result.index (length h0.depths) c.next_var-first_fresh.ensures c.match_all.ensures.frozen) in
    let grows3 = grows-after h0 h2 h3 c.args.trail.now.entries c.match_all.new.trail.entries grows2 c.match_all.ensures.grows in
    let s = c.match_all.new.trail.entries in
    grows-trans h0 h3 c.fire.new.heap c.args.trail.now.entries s s grows3 (gains-grows h3 c.fire.new.heap s c.fire.ensures.gains)

pub returns-in-Ok-false-clause-answer : goal.returns-in-Ok-false-clause-answer
returns-in-Ok-false-clause-answer g c =
    let h0 = c.args.heap.now in
    let h1 = c.instance.new.heap in
    let h2 = c.equations_of_heads.new.heap in
    let h3 = c.match_all.new.heap in
    let log = c.args.scan.now.store.now in
    let ids = c.args.ids.now in
    let depth = c.args.joint.now.depth in
    let gains = c.equations_of_heads.ensures.gains in
    let t : Tuple = record { store = c.args.scan.now.store; shape = c.args.scan.now.shape; ids = c.args.ids; args = c.args.args; joint = c.args.joint; made = record { ref_ptr = c.args.joint.ref_ptr; now = c.in_ok-made.made } } in
    let first = c.next_var-first_fresh.result.index in
    let es = c.as_slice.result.now in
    let problem = problem_of_all h2 depth es in
    let a = match-false c.in-Ok-false.field-0 (AnswersTrue first h2 h3 problem) (AnswersFalse first problem) c.in-Ok-false.field-0-test c.in-Ok-false.ensures.answer in
    λ p r s.
    let made = c.in_ok-made.ensures.made p r s.code s.rule in
    let is_tuple = tuple-made h0 h1 _ r c.is_sound.ensures c.instance.ensures.grows s.shape c.requires.stored s.constraints c.requires.args c.requires.maps c.requires.below c.requires.count made in
    let kept1 = keeps-grown h0 h1 c.is_sound.ensures c.instance.ensures.grows in
    let reads = ap (equations_in h2 depth) c.as_slice.ensures.value ∙ c.in_ok-equations.ensures.reads (length h0.depths) r is_tuple
    ∙ ap (λ (cs : List Constraint). match_equations r depth (length h0.depths) (heads_of r) c.args.joint.now.maps.items cs) (tuple-kept h0 h1 log ids kept1 s.constraints) in
    let count = ap length gains.variables ∙ made.next in
    match-clashes h0 h2 t c.args.scan.now.rule first r es c.next_var-first_fresh.ensures count reads a.0 a.1

pub returns-in-Ok-false-clause-frozen : goal.returns-in-Ok-false-clause-frozen
returns-in-Ok-false-clause-frozen g c =
    let h0 = c.args.heap.now in
    let h1 = c.instance.new.heap in
    let h2 = c.equations_of_heads.new.heap in
    let h3 = c.match_all.new.heap in
    let gains = c.equations_of_heads.ensures.gains in
    let grows2 = grows-after h0 h1 h2 [] [] c.instance.ensures.grows gains.grows in
    let frozen3 = frozen-after h0 h2 h3 (length h0.depths) grows2 (frozen-from h2 h3 c.next_var-first_fresh.result.index (length h0.depths) c.next_var-first_fresh.ensures c.match_all.ensures.frozen) in
    let grows3 = grows-after h0 h2 h3 c.args.trail.now.entries c.match_all.new.trail.entries grows2 c.match_all.ensures.grows in
    frozen3

pub returns-in-Ok-false-clause-grows : goal.returns-in-Ok-false-clause-grows
returns-in-Ok-false-clause-grows g c =
    let h0 = c.args.heap.now in
    let h1 = c.instance.new.heap in
    let h2 = c.equations_of_heads.new.heap in
    let h3 = c.match_all.new.heap in
    let gains = c.equations_of_heads.ensures.gains in
    let grows2 = grows-after h0 h1 h2 [] [] c.instance.ensures.grows gains.grows in
    let frozen3 = frozen-after h0 h2 h3 (length h0.depths) grows2 (frozen-from h2 h3 c.next_var-first_fresh.result.index (length h0.depths) c.next_var-first_fresh.ensures c.match_all.ensures.frozen) in
    let grows3 = grows-after h0 h2 h3 c.args.trail.now.entries c.match_all.new.trail.entries grows2 c.match_all.ensures.grows in
    grows3

pub returns-clause-stops : goal.returns-clause-stops
returns-clause-stops g c =
    let h0 = c.args.heap.now in
    let h1 = c.instance.new.heap in
    let h2 = c.equations_of_heads.new.heap in
    let h3 = c.match_all.new.heap in
    let log = c.args.scan.now.store.now in
    let ids = c.args.ids.now in
    let depth = c.args.joint.now.depth in
    let gains = c.equations_of_heads.ensures.gains in
    let t : Tuple = record { store = c.args.scan.now.store; shape = c.args.scan.now.shape; ids = c.args.ids; args = c.args.args; joint = c.args.joint; made = record { ref_ptr = c.args.joint.ref_ptr; now = c.in_ok-made.made } } in
    let first = c.next_var-first_fresh.result.index in
    let es = c.as_slice.result.now in
    let problem = problem_of_all h2 depth es in
    λ p r s.
    let made = c.in_ok-made.ensures.made p r s.code s.rule in
    let is_tuple = tuple-made h0 h1 _ r c.is_sound.ensures c.instance.ensures.grows s.shape c.requires.stored s.constraints c.requires.args c.requires.maps c.requires.below c.requires.count made in
    let kept1 = keeps-grown h0 h1 c.is_sound.ensures c.instance.ensures.grows in
    let reads = ap (equations_in h2 depth) c.as_slice.ensures.value ∙ c.in_ok-equations.ensures.reads (length h0.depths) r is_tuple
    ∙ ap (λ (cs : List Constraint). match_equations r depth (length h0.depths) (heads_of r) c.args.joint.now.maps.items cs) (tuple-kept h0 h1 log ids kept1 s.constraints) in
    let count = ap length gains.variables ∙ made.next in
    stops-matched h0 h2 t c.args.scan.now.rule first r es c.next_var-first_fresh.ensures count reads c.in-Err.stop c.in-Err.ensures.stops

pub returns-clause-frozen : goal.returns-clause-frozen
returns-clause-frozen g c =
    let h0 = c.args.heap.now in
    let h1 = c.instance.new.heap in
    let h2 = c.equations_of_heads.new.heap in
    let h3 = c.match_all.new.heap in
    let gains = c.equations_of_heads.ensures.gains in
    let grows2 = grows-after h0 h1 h2 [] [] c.instance.ensures.grows gains.grows in
    let frozen3 = frozen-after h0 h2 h3 (length h0.depths) grows2 (frozen-from h2 h3 c.next_var-first_fresh.result.index (length h0.depths) c.next_var-first_fresh.ensures c.match_all.ensures.frozen) in
    let grows3 = grows-after h0 h2 h3 c.args.trail.now.entries c.match_all.new.trail.entries grows2 c.match_all.ensures.grows in
    frozen3

pub returns-clause-grows : goal.returns-clause-grows
returns-clause-grows g c =
    let h0 = c.args.heap.now in
    let h1 = c.instance.new.heap in
    let h2 = c.equations_of_heads.new.heap in
    let h3 = c.match_all.new.heap in
    let gains = c.equations_of_heads.ensures.gains in
    let grows2 = grows-after h0 h1 h2 [] [] c.instance.ensures.grows gains.grows in
    let frozen3 = frozen-after h0 h2 h3 (length h0.depths) grows2 (frozen-from h2 h3 c.next_var-first_fresh.result.index (length h0.depths) c.next_var-first_fresh.ensures c.match_all.ensures.frozen) in
    let grows3 = grows-after h0 h2 h3 c.args.trail.now.entries c.match_all.new.trail.entries grows2 c.match_all.ensures.grows in
    grows3
