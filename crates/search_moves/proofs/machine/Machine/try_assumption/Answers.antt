use Rattle.std.proofs.Common.{◌∷◌, [], ◌∙◌, suc, IfSome, List, sym, ap, subst, arith, length, length-append}
use Rattle.level_terms.specs.declared.node.TermId.{TermId}
use Rattle.beta_fragment.specs.HeadForm.{all_read, AllValidAt}
use Rattle.hyp_clause.specs.Hyps.{assumption_in}
use Rattle.hyp_context.specs.Contexts.{hyps_for}
use Rattle.ref_terms.specs.declared.path.Choice.TheVariants.{Hyp as ByAssumption}
use Rattle.ref_terms.specs.search.State.{of_assumption}
use Rattle.search_moves.specs.declared.frame.Saved.{Saved}
use Rattle.search_moves.specs.declared.frame.Left.TheVariants.{Call as LeftCall, Side}
use Rattle.search_moves.specs.declared.frame.Later.{Later}
use Rattle.search_moves.specs.declared.frame.Later.TheVariants.{Assumptions}
use Rattle.search_moves.specs.Saved.{AllSaved, IsLaterOf}
use Rattle.search_moves.specs.Reading.{later_of}
use Rattle.search_moves.specs.Machine.{branch_of}
use Rattle.search_moves.specs.Calling.{HasInputs, HasFitted, HasClashed, HasBroken, IsLeftAfter}
use Rattle.search_moves.proofs.AssumedLemmas.{drop-step, hyp-there}
use Rattle.search_moves.proofs.FrameLemmas.{all-valid-grown}
use Rattle.search_moves.proofs.SolveLemmas.{picked-true, picked-false}
use Rattle.search_moves.proofs.GrowLemmas.{if-some}
use Rattle.search_moves.proofs.EnterLemmas.{HasMade, clause-clashes, clause-breaks, clause-fits, saved-both, gone-back, call-left, first-after, terms-same, body-early, later-left}
use Rattle.search_moves.proofs.machine.Machine.try_assumption.Goals as goal

pub assumed_instance-requires-clause-usable : goal.assumed_instance-requires-clause-usable
assumed_instance-requires-clause-usable g c =
    let f = c.args.call.now.goal.now in
    (hyp-there c.args.self.now.world.heap f.depth c.args.call.now.pred.0 c.args.place f.context c.args.hyp.now c.args.others.now c.requires.call.first.context c.requires.left).1

pub assumed_instance-requires-clause-valid : goal.assumed_instance-requires-clause-valid
assumed_instance-requires-clause-valid g c =
    let f = c.args.call.now.goal.now in
    (hyp-there c.args.self.now.world.heap f.depth c.args.call.now.pred.0 c.args.place f.context c.args.hyp.now c.args.others.now c.requires.call.first.context c.requires.left).0

pub fit-requires-clause-heads : goal.fit-requires-clause-heads
fit-requires-clause-heads g c =
    subst (λ (ts : List TermId). AllValidAt c.assumed_instance.new.self.world.heap ts c.args.call.now.goal.now.depth) (sym c.as_slice.ensures.value) c.in_ok-made.ensures.made.head.heads_valid

pub fit-requires-clause-args : goal.fit-requires-clause-args
fit-requires-clause-args g c =
    all-valid-grown c.args.self.now.world.heap c.assumed_instance.new.self.world.heap [] [] c.args.call.now.goal.now.depth c.is_fine.ensures.sound c.assumed_instance.ensures.grows c.args.call.now.args.now c.requires.call.args

pub fit-requires-clause-first : goal.fit-requires-clause-first
fit-requires-clause-first g c = omega (arith, c.next_var-first_fresh.ensures, ap length c.assumed_instance.ensures.grows.depths, length-append c.args.self.now.world.heap.depths c.assumed_instance.ensures.grows.new_depths)

pub retreat-requires : goal.retreat-requires
retreat-requires g c =
    let a : Saved = record { mark = c.here-first.result.0; first = c.here-first.result.1; left = Side } in
    saved-both c.args.self.now.world c.assumed_instance.new.self.world c.fit.new.self.world a c.args.self.now.saved c.fit.new.self.saved (c.fit.ensures.saved ∙ c.assumed_instance.ensures.saved) (c.here-first.ensures.can_go_back Side tt)
    c.assumed_instance.ensures.grows c.assumed_instance.ensures.rest c.fit.ensures.grows c.fit.ensures.rest

pub leave_rest-requires : goal.leave_rest-requires
leave_rest-requires g c =
    let call = c.args.call.now in
    let pred = call.pred in
    let at : Later → Saved = λ l. record { mark = c.here-first.result.0; first = c.here-first.result.1; left = LeftCall pred l } in
    if-some c.in_ok-later.later (IsLaterOf call.goal.now.context pred) (λ l. AllSaved c.fit.new.self.world (at l ∷ c.fit.new.self.saved))
    (λ l is. saved-both c.args.self.now.world c.assumed_instance.new.self.world c.fit.new.self.world (at l) c.args.self.now.saved c.fit.new.self.saved (c.fit.ensures.saved ∙ c.assumed_instance.ensures.saved)
    (c.here-first.ensures.can_go_back (LeftCall pred l) (call-left c.args.self.now call l c.requires.call is))
    c.assumed_instance.ensures.grows c.assumed_instance.ensures.rest c.fit.ensures.grows c.fit.ensures.rest)
    c.in_ok-later.ensures.left

pub enter_all-requires-clause-first : goal.enter_all-requires-clause-first
enter_all-requires-clause-first g c =
    first-after c.args.self.now c.assumed_instance.new.self c.fit.new.self c.leave_rest.new.self c.args.call.now.goal.now c.is_fine.ensures.sound c.assumed_instance.ensures.first c.assumed_instance.ensures.grows c.assumed_instance.ensures.rest
    c.fit.ensures.sound c.fit.ensures.first c.fit.ensures.grows c.fit.ensures.rest c.leave_rest.ensures.world c.leave_rest.ensures.first c.requires.call.first

pub enter_all-requires-clause-body : goal.enter_all-requires-clause-body
enter_all-requires-clause-body g c =
    let body = c.in_ok-made.made.body.items in
    let d = c.args.call.now.goal.now.depth in
    subst (λ ts. AllValidAt c.leave_rest.new.self.world.heap ts d) (sym c.as_slice-2.ensures.value)
    (subst (λ w. AllValidAt w.heap body d) (sym c.leave_rest.ensures.world)
    (all-valid-grown c.assumed_instance.new.self.world.heap c.fit.new.self.world.heap c.fit.ensures.grows.before c.fit.ensures.grows.after d c.fit.ensures.sound c.fit.ensures.grows.grows body c.in_ok-made.ensures.made.body_valid))

pub returns-in-Ok-false-clause-answer : goal.returns-in-Ok-false-clause-answer
returns-in-Ok-false-clause-answer g c = λ p modes stands known inputs.
    let call = c.args.call.now in
    let heads = c.in_ok-made.made.heads.items in
    let candidate = of_assumption c.args.place (assumption_in c.args.self.now.world.heap c.args.hyp.now) in
    let has : HasMade c.args.self.now c.assumed_instance.new.self call candidate heads =
    record { fine = c.is_fine.ensures.fine; sound = c.is_fine.ensures.sound; is_call = c.requires.call; grows = c.assumed_instance.ensures.grows; rest = c.assumed_instance.ensures.rest; same = c.assumed_instance.ensures.first; head = c.in_ok-made.ensures.made.head } in
    clause-clashes c.args.self.now c.assumed_instance.new.self call candidate heads has modes inputs
    (subst (λ n. HasClashed n call.goal.now.depth call.inputs.now heads call.args.now c.assumed_instance.new.self.world.heap) c.next_var-first_fresh.ensures
    (subst (λ hs. HasClashed c.next_var-first_fresh.result.index call.goal.now.depth call.inputs.now hs call.args.now c.assumed_instance.new.self.world.heap) c.as_slice.ensures.value
    (picked-false _ _ c.in-Ok-false.field-0 c.in-Ok-false.field-0-test c.in-Ok-false.ensures.answer)))

pub returns-in-Ok-false-clause-same : goal.returns-in-Ok-false-clause-same
returns-in-Ok-false-clause-same g c = λ no.
    let a : Saved = record { mark = c.here-first.result.0; first = c.here-first.result.1; left = Side } in
    gone-back c.args.self.now c.assumed_instance.new.self c.fit.new.self c.retreat.new.self a c.here-first.ensures.mark (c.here-first.ensures.can_go_back Side tt) c.assumed_instance.ensures.grows c.assumed_instance.ensures.rest c.fit.ensures.grows c.fit.ensures.rest
    c.retreat.ensures.world (c.retreat.ensures.first ∙ c.here-first.ensures.first) (c.retreat.ensures.saved ∙ c.fit.ensures.saved ∙ c.assumed_instance.ensures.saved) (c.retreat.ensures.phase ∙ c.fit.ensures.phase ∙ c.assumed_instance.ensures.phase)

pub returns-in-Err-clause-stops : goal.returns-in-Err-clause-stops
returns-in-Err-clause-stops g c = λ modes inputs.
    let call = c.args.call.now in
    let heads = c.in_ok-made.made.heads.items in
    let candidate = of_assumption c.args.place (assumption_in c.args.self.now.world.heap c.args.hyp.now) in
    let has : HasMade c.args.self.now c.assumed_instance.new.self call candidate heads =
    record { fine = c.is_fine.ensures.fine; sound = c.is_fine.ensures.sound; is_call = c.requires.call; grows = c.assumed_instance.ensures.grows; rest = c.assumed_instance.ensures.rest; same = c.assumed_instance.ensures.first; head = c.in_ok-made.ensures.made.head } in
    clause-breaks c.args.self.now c.assumed_instance.new.self call candidate heads has modes inputs c.in-Err.stop
    (subst (λ n. HasBroken n call.goal.now.depth call.inputs.now heads call.args.now c.assumed_instance.new.self.world.heap c.in-Err.stop) c.next_var-first_fresh.ensures
    (subst (λ hs. HasBroken c.next_var-first_fresh.result.index call.goal.now.depth call.inputs.now hs call.args.now c.assumed_instance.new.self.world.heap c.in-Err.stop) c.as_slice.ensures.value
    c.in-Err.ensures.stops))

pub returns-clause-answer : goal.returns-clause-answer
returns-clause-answer g c = λ p modes stands known inputs.
    let m0 = c.args.self.now in
    let m1 = c.assumed_instance.new.self in
    let m2 = c.fit.new.self in
    let call = c.args.call.now in
    let pred = call.pred in
    let heads = c.in_ok-made.made.heads.items in
    let body = c.in_ok-made.made.body.items in
    let candidate = of_assumption c.args.place (assumption_in m0.world.heap c.args.hyp.now) in
    let has : HasMade m0 m1 call candidate heads =
    record { fine = c.is_fine.ensures.fine; sound = c.is_fine.ensures.sound; is_call = c.requires.call; grows = c.assumed_instance.ensures.grows; rest = c.assumed_instance.ensures.rest; same = c.assumed_instance.ensures.first; head = c.in_ok-made.ensures.made.head } in
    let fitted : HasFitted (length m0.world.heap.depths) call.goal.now.depth call.inputs.now heads call.args.now m1 m2 =
    subst (λ n. HasFitted n call.goal.now.depth call.inputs.now heads call.args.now m1 m2) c.next_var-first_fresh.ensures
    (subst (λ hs. HasFitted c.next_var-first_fresh.result.index call.goal.now.depth call.inputs.now hs call.args.now m1 m2) c.as_slice.ensures.value
    (picked-true _ _ c.in-Ok-true.field-0 c.in-Ok-true.field-0-test c.in-Ok-true.ensures.answer)) in
    let at : Later → Saved = λ l. record { mark = c.here-first.result.0; first = c.here-first.result.1; left = LeftCall pred l } in
    let can : IfSome c.in_ok-later.later (λ l. AllSaved m0.world (at l ∷ m0.saved)) =
    if-some c.in_ok-later.later (IsLaterOf call.goal.now.context pred) (λ l. AllSaved m0.world (at l ∷ m0.saved))
    (λ l h. c.here-first.ensures.can_go_back (LeftCall pred l) (call-left m0 call l c.requires.call h)) c.in_ok-later.ensures.left in
    let cs = later_of p (branch_of m0).goals pred.0 (Assumptions (suc c.args.place) c.args.others.now) in
    let left : IsLeftAfter p (branch_of m0) pred cs c.in_ok-later.later =
    c.in_ok-later.ensures.after _ p stands (subst (HasInputs call) known inputs) in
    record {
      fits = clause-fits m0 m1 call candidate heads has m2 c.fit.ensures.sound fitted c.fit.ensures.grows c.fit.ensures.rest c.fit.ensures.first modes inputs (all_read m2.world.heap body)
          (body-early m0 m1 call candidate heads has m2 c.fit.ensures.sound fitted c.fit.ensures.grows c.fit.ensures.rest c.fit.ensures.first body c.in_ok-made.ensures.made.body c.in_ok-made.ensures.made.body_valid) _
          (c.in_ok-enter_all.ensures.branch
          ∙ terms-same m2 c.leave_rest.new.self call.goal.now (length m0.saved) c.alternatives-barrier.result (all_read m2.world.heap body) _ (ByAssumption c.args.place) c.leave_rest.ensures.world c.leave_rest.ensures.first c.alternatives-barrier.ensures
          (ap (all_read c.leave_rest.new.self.world.heap) c.as_slice-2.ensures.value ∙ ap (λ w. all_read w.heap body) c.leave_rest.ensures.world));
      alternatives = later-left p m0 m1 m2 c.leave_rest.new.self c.enter_all.new.self pred c.here-first.result.0 c.here-first.result.1 cs c.in_ok-later.later left
          c.here-first.ensures.mark c.here-first.ensures.first can
          c.assumed_instance.ensures.grows c.assumed_instance.ensures.rest c.fit.ensures.grows c.fit.ensures.rest (c.assumed_instance.ensures.alternatives p) (c.fit.ensures.alternatives p) (c.in_ok-leave_rest.ensures.alternatives p) (c.enter_all.ensures.alternatives p);
    }

pub passes_over-requires-clause-valid : goal.passes_over-requires-clause-valid
passes_over-requires-clause-valid g c =
    let f = c.args.call.now.goal.now in
    (hyp-there c.args.self.now.world.heap f.depth c.args.call.now.pred.0 c.args.place f.context c.args.hyp.now c.args.others.now c.requires.call.first.context c.requires.left).0

pub passes_over-requires-clause-usable : goal.passes_over-requires-clause-usable
passes_over-requires-clause-usable g c =
    let f = c.args.call.now.goal.now in
    (hyp-there c.args.self.now.world.heap f.depth c.args.call.now.pred.0 c.args.place f.context c.args.hyp.now c.args.others.now c.requires.call.first.context c.requires.left).1

pub returns-then-passes_over-clause-answer : goal.returns-then-passes_over-clause-answer
returns-then-passes_over-clause-answer g c = λ p modes stands known inputs. c.passes_over.ensures c.if-passes_over.true modes inputs c.args.place (length c.args.self.now.saved)

pub left_after-requires-clause-others : goal.left_after-requires-clause-others
left_after-requires-clause-others g c = sym (drop-step c.args.place (hyps_for c.args.call.now.pred.0 c.args.call.now.goal.now.context) c.args.hyp.now c.args.others.now c.requires.left)
