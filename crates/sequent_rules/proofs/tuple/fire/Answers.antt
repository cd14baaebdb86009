use Rattle.std.proofs.Common.{◌∙◌, length, refl, sym, ap, option_to_list}
use Rattle.std.specs.List.{list_all}
use Rattle.level_terms.specs.Gains.{GainsNodes}
use Rattle.level_terms.specs.Graph.{Graph}
use Rattle.level_terms.specs.Sound.{IsSound}
use Rattle.level_terms.proofs.GainLemmas.{gains-trans}
use Rattle.beta_fragment.specs.HeadForm.{all_read}
use Rattle.ref_terms.specs.search.Fault.{Good}
use Rattle.ref_terms.specs.search.RuleInstance.{body_assumptions, matched_value}
use Rattle.ref_terms.specs.search.RuleTest.{holds}
use Rattle.suspend.specs.Store.{stored}
use Rattle.sequent_rules.specs.inside.Tuples.{tuple_in}
use Rattle.sequent_rules.proofs.KeptLemmas.{Keeps, keeps-grown, keeps-trans, all-valid, hyps-kept, hyps-valid, sequents-valid}
use Rattle.sequent_rules.proofs.MatchedLemmas.{tuple-kept}
use Rattle.sequent_rules.proofs.FireLemmas.{matched-kept, tests-are, fire-refused, fire-goes, stops-context, kept-few, gone-are, goal-is, deep-kept}
use Rattle.sequent_rules.proofs.tuple.fire.Goals as goal

-- what gains nodes alone keeps what is there
keeps : (g h : Graph) → IsSound g → GainsNodes g h → Keeps g h
keeps g h sound w = keeps-grown g h sound w.grows

pub returns-then-not-hold-clause-answer : goal.returns-then-not-hold-clause-answer
returns-then-not-hold-clause-answer c = λ bs next r m s.
    let g = c.args.heap.now in
    let t = c.args.tuple.now in
    fire-refused g t c.args.rule bs next r
    (sym (tests-are g bs t.joint.now.depth next t.made.now r m) ∙ sym (ap (λ (ts : _). list_all holds (all_read g ts)) c.as_slice.ensures.value) ∙ sym c.in_ok-hold.ensures.hold ∙ c.if-not-hold.true)

pub context_of_body-requires-clause-matched : goal.context_of_body-requires-clause-matched
context_of_body-requires-clause-matched c =
    let g = c.args.heap.now in
    let h = c.all_hold.new.heap in
    let t = c.args.tuple.now in
    let q = c.requires.matched in
    (q.0, q.1, q.2, matched-kept g h (keeps g h c.is_sound.ensures c.all_hold.ensures.gains) q.0 t.joint.now.depth q.1 t.made.now q.2 q.3, q.4)

pub context_of_body-requires-clause-constraints : goal.context_of_body-requires-clause-constraints
context_of_body-requires-clause-constraints c =
    let g = c.args.heap.now in
    let h = c.all_hold.new.heap in
    sequents-valid g h (keeps g h c.is_sound.ensures c.all_hold.ensures.gains) (stored c.args.tuple.now.store.now) c.requires.constraints

pub context_of_body-requires-clause-first : goal.context_of_body-requires-clause-first
context_of_body-requires-clause-first c =
    let g = c.args.heap.now in
    let h = c.all_hold.new.heap in
    let t = c.args.tuple.now in
    deep-kept g h t.joint.now.depth (tuple_in g t.store.now t.ids.now) (tuple_in h t.store.now t.ids.now)
    (tuple-kept g h t.store.now t.ids.now (keeps g h c.is_sound.ensures c.all_hold.ensures.gains) c.requires.constraints) c.requires.first

pub returns-in-Err-clause-stops : goal.returns-in-Err-clause-stops
returns-in-Err-clause-stops c = λ bs next r m s.
    let g = c.args.heap.now in
    let h = c.all_hold.new.heap in
    let t = c.args.tuple.now in
    let k = keeps g h c.is_sound.ensures c.all_hold.ensures.gains in
    let hold = sym (tests-are g bs t.joint.now.depth next t.made.now r m) ∙ sym (ap (λ (ts : _). list_all holds (all_read g ts)) c.as_slice.ensures.value) ∙ sym c.in_ok-hold.ensures.hold ∙ c.if-not-hold.false in
    stops-context g h t c.args.rule bs next r c.in-Err.stop hold (tuple-kept g h t.store.now t.ids.now k c.requires.constraints)
    (c.in-Err.ensures.stops bs next r (matched-kept g h k bs t.joint.now.depth next t.made.now r m) s)

pub returns-in-Err-clause-gains : goal.returns-in-Err-clause-gains
returns-in-Err-clause-gains c = gains-trans c.args.heap.now c.all_hold.new.heap c.context_of_body.new.heap c.all_hold.ensures.gains c.context_of_body.ensures.gains

pub goal_of-requires : goal.goal_of-requires
goal_of-requires c =
    let g = c.args.heap.now in
    let h1 = c.all_hold.new.heap in
    let h2 = c.context_of_body.new.heap in
    let t = c.args.tuple.now in
    let k = keeps-trans g h1 h2 (keeps g h1 c.is_sound.ensures c.all_hold.ensures.gains) (keeps h1 h2 c.is_sound-2.ensures c.context_of_body.ensures.gains) in
    all-valid g h2 k t.joint.now.depth (option_to_list t.made.now.body) c.requires.matched.3.body_valid

pub returns-in_err-body-clause-gains : goal.returns-in_err-body-clause-gains
returns-in_err-body-clause-gains c =
    gains-trans c.args.heap.now c.all_hold.new.heap c.goal_of.new.heap c.all_hold.ensures.gains
    (gains-trans c.all_hold.new.heap c.context_of_body.new.heap c.goal_of.new.heap c.context_of_body.ensures.gains c.goal_of.ensures.gains)

pub returns-in_err-constraints-clause-gains : goal.returns-in_err-constraints-clause-gains
returns-in_err-constraints-clause-gains c =
    gains-trans c.args.heap.now c.all_hold.new.heap c.goal_of.new.heap c.all_hold.ensures.gains
    (gains-trans c.all_hold.new.heap c.context_of_body.new.heap c.goal_of.new.heap c.context_of_body.ensures.gains c.goal_of.ensures.gains)

pub after_kept-requires : goal.after_kept-requires
after_kept-requires c = kept-few c.args.tuple.now.shape.now c.requires.matched.2 c.args.tuple.now.ids.now c.requires.matched.4 c.requires.count

pub returns-in_err-removed-clause-gains : goal.returns-in_err-removed-clause-gains
returns-in_err-removed-clause-gains c =
    gains-trans c.args.heap.now c.all_hold.new.heap c.goal_of.new.heap c.all_hold.ensures.gains
    (gains-trans c.all_hold.new.heap c.context_of_body.new.heap c.goal_of.new.heap c.context_of_body.ensures.gains c.goal_of.ensures.gains)

pub returns-clause-answer : goal.returns-clause-answer
returns-clause-answer c = λ bs next r m s.
    let g = c.args.heap.now in
    let h1 = c.all_hold.new.heap in
    let h2 = c.context_of_body.new.heap in
    let h3 = c.goal_of.new.heap in
    let t = c.args.tuple.now in
    let depth = t.joint.now.depth in
    let k1 = keeps g h1 c.is_sound.ensures c.all_hold.ensures.gains in
    let k2 = keeps-trans g h1 h2 k1 (keeps h1 h2 c.is_sound-2.ensures c.context_of_body.ensures.gains) in
    let k3 = keeps h2 h3 c.is_sound-3.ensures c.goal_of.ensures.gains in
    let hold = sym (tests-are g bs depth next t.made.now r m) ∙ sym (ap (λ (ts : _). list_all holds (all_read g ts)) c.as_slice.ensures.value) ∙ sym c.in_ok-hold.ensures.hold ∙ c.if-not-hold.false in
    let context = c.in-Ok.ensures.context bs next r (matched-kept g h1 k1 bs depth next t.made.now r m) s in
    let assumed =
    ap (body_assumptions r.body_context depth (matched_value depth next bs)) (sym (tuple-kept g h1 t.store.now t.ids.now k1 c.requires.constraints))
    ∙ context.reads ∙ ap Good (sym (hyps-kept h2 h3 k3 c.in-Ok.context context.valid)) in
    fire-goes g t c.args.rule bs next r h3
    (record { rule = c.args.rule; constraints = c.in_ok-constraints.constraints; removed = c.in_ok-removed.removed; names = depth; context = c.in-Ok.context; body = c.in_ok-body.body })
    hold assumed refl c.in_ok-constraints.ensures (gone-are t.shape.now r t.ids.now c.in_ok-removed.removed.items s c.in_ok-removed.ensures) refl
    (goal-is h2 bs depth next t.made.now r _ (matched-kept g h2 k2 bs depth next t.made.now r m) c.in_ok-body.ensures.reads)
    (ap length (c.goal_of.ensures.gains.variables ∙ c.context_of_body.ensures.gains.variables ∙ c.all_hold.ensures.gains.variables))

pub returns-clause-firing : goal.returns-clause-firing
returns-clause-firing c =
    let g = c.args.heap.now in
    let h1 = c.all_hold.new.heap in
    let h2 = c.context_of_body.new.heap in
    let h3 = c.goal_of.new.heap in
    let t = c.args.tuple.now in
    let q = c.requires.matched in
    let k1 = keeps g h1 c.is_sound.ensures c.all_hold.ensures.gains in
    let context = c.in-Ok.ensures.context q.0 q.1 q.2 (matched-kept g h1 k1 q.0 t.joint.now.depth q.1 t.made.now q.2 q.3) q.4 in
    record {
      body = c.in_ok-body.ensures.valid;
      context = hyps-valid h2 h3 (keeps h2 h3 c.is_sound-3.ensures c.goal_of.ensures.gains) c.in-Ok.context context.valid;
      within = context.within;
    }

pub returns-clause-gains : goal.returns-clause-gains
returns-clause-gains c =
    gains-trans c.args.heap.now c.all_hold.new.heap c.goal_of.new.heap c.all_hold.ensures.gains
    (gains-trans c.all_hold.new.heap c.context_of_body.new.heap c.goal_of.new.heap c.context_of_body.ensures.gains c.goal_of.ensures.gains)
