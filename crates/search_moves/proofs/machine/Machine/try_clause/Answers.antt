use Rattle.std.proofs.Common.{◌≡◌, ◌∷◌, [], ◌∙◌, suc, drop, IfSome, List, option_to_list, refl, sym, ap, subst, arith, length, length-append}
use Rattle.level_terms.specs.declared.node.TermId.{TermId}
use Rattle.level_terms.specs.declared.node.Node.{Node}
use Rattle.beta_fragment.specs.HeadForm.{all_read, AllValidAt}
use Rattle.ref_terms.specs.declared.path.Choice.TheVariants.{Clause as ByClause}
use Rattle.search_moves.specs.declared.frame.Saved.{Saved}
use Rattle.search_moves.specs.declared.frame.Left.TheVariants.{Call as LeftCall, Side}
use Rattle.search_moves.specs.declared.frame.Later.{Later}
use Rattle.search_moves.specs.declared.frame.Later.TheVariants.{Clauses}
use Rattle.ref_terms.specs.search.State.{of_program}
use Rattle.ref_terms.specs.search.Candidates.{program_candidates}
use Rattle.search_moves.specs.Saved.{AllSaved}
use Rattle.search_moves.specs.World.{code_nodes}
use Rattle.search_moves.specs.Machine.{Machine, branch_of}
use Rattle.search_moves.specs.Instances.{ReadAsVariables}
use Rattle.search_moves.specs.Calling.{HasFitted, HasClashed, HasBroken, IsLeftAfter}
use Rattle.search_moves.proofs.FrameLemmas.{all-valid-grown}
use Rattle.search_moves.proofs.SolveLemmas.{picked-true, picked-false}
use Rattle.search_moves.proofs.EnterLemmas.{HasMade, clause-clashes, clause-breaks, clause-fits, saved-both, gone-back, call-left, first-after, terms-same, terms-later, variables-bound, each-clause, later-left, get-some}
use Rattle.search_moves.proofs.machine.Machine.try_clause.Goals as goal

pub fit-requires-clause-heads : goal.fit-requires-clause-heads
fit-requires-clause-heads g c =
    let k = get-some c.requires.code.0.clauses c.args.clause c.requires.code.2 in
    subst (λ (ts : List TermId). AllValidAt c.instance.new.self.world.heap ts c.args.call.now.goal.now.depth) (sym c.as_slice.ensures.value)
    (c.in_ok-made.ensures.made c.requires.code.0 k.0 c.requires.code.1 k.1).head.heads_valid

pub fit-requires-clause-args : goal.fit-requires-clause-args
fit-requires-clause-args g c =
    all-valid-grown c.args.self.now.world.heap c.instance.new.self.world.heap [] [] c.args.call.now.goal.now.depth c.is_fine.ensures.sound c.instance.ensures.grows c.args.call.now.args.now c.requires.call.args

pub fit-requires-clause-first : goal.fit-requires-clause-first
fit-requires-clause-first g c = omega (arith, c.next_var-first_fresh.ensures, ap length c.instance.ensures.grows.depths, length-append c.args.self.now.world.heap.depths c.instance.ensures.grows.new_depths)

pub retreat-requires : goal.retreat-requires
retreat-requires g c =
    let a : Saved = record { mark = c.here-first.result.0; first = c.here-first.result.1; left = Side } in
    saved-both c.args.self.now.world c.instance.new.self.world c.fit.new.self.world a c.args.self.now.saved c.fit.new.self.saved (c.fit.ensures.saved ∙ c.instance.ensures.saved) (c.here-first.ensures.can_go_back Side tt)
    c.instance.ensures.grows c.instance.ensures.rest c.fit.ensures.grows c.fit.ensures.rest

pub leave_rest-requires : goal.leave_rest-requires
leave_rest-requires g c =
    let pred = c.args.call.now.pred in
    let at : Later → Saved = λ l. record { mark = c.here-first.result.0; first = c.here-first.result.1; left = LeftCall pred l } in
    subst (λ o. IfSome o (λ l. AllSaved c.fit.new.self.world (at l ∷ c.fit.new.self.saved))) (sym c.from_clause-rest.ensures)
    (each-clause (λ l. AllSaved c.fit.new.self.world (at l ∷ c.fit.new.self.saved))
    (λ i. saved-both c.args.self.now.world c.instance.new.self.world c.fit.new.self.world (at (Clauses i)) c.args.self.now.saved c.fit.new.self.saved (c.fit.ensures.saved ∙ c.instance.ensures.saved)
    (c.here-first.ensures.can_go_back (LeftCall pred (Clauses i)) (call-left c.args.self.now c.args.call.now (Clauses i) c.requires.call tt))
    c.instance.ensures.grows c.instance.ensures.rest c.fit.ensures.grows c.fit.ensures.rest) c.args.later)

-- the head's nodes after the clause's alternative was made
code-there : (P : List Node → Type 0) (m0 m1 m2 m3 : Machine) → code_nodes m1.world ≡ code_nodes m0.world → code_nodes m2.world ≡ code_nodes m1.world → m3.world ≡ m2.world → P (code_nodes m0.world) → P (code_nodes m3.world)
code-there P m0 m1 m2 m3 one two three p = subst P (sym (ap code_nodes three ∙ two ∙ one)) p

pub body-requires-clause-code : goal.body-requires-clause-code
body-requires-clause-code g c =
    let p = c.requires.code.0 in
    let k = get-some p.clauses c.args.clause c.requires.code.2 in (
      p,
      k.0,
      code-there (λ ns. g.C.Clauses.stands ns c.args.code.now p) c.args.self.now c.instance.new.self c.fit.new.self c.leave_rest.new.self c.instance.ensures.code c.fit.ensures.code c.leave_rest.ensures.world c.requires.code.1,
      k.1,
      (c.in_ok-made.ensures.made p k.0 c.requires.code.1 k.1).count,
    )

pub body-requires-clause-variables : goal.body-requires-clause-variables
body-requires-clause-variables g c =
    let k = get-some c.requires.code.0.clauses c.args.clause c.requires.code.2 in
    let valid = (c.in_ok-made.ensures.made c.requires.code.0 k.0 c.requires.code.1 k.1).valid in
    subst (λ w. AllValidAt w.heap c.in_ok-made.made.variables.items c.args.call.now.goal.now.depth) (sym c.leave_rest.ensures.world)
    (all-valid-grown c.instance.new.self.world.heap c.fit.new.self.world.heap c.fit.ensures.grows.before c.fit.ensures.grows.after c.args.call.now.goal.now.depth c.fit.ensures.sound c.fit.ensures.grows.grows c.in_ok-made.made.variables.items valid)

pub enter-requires-clause-first : goal.enter-requires-clause-first
enter-requires-clause-first g c =
    c.body.ensures.first c.args.call.now.goal.now
    (first-after c.args.self.now c.instance.new.self c.fit.new.self c.leave_rest.new.self c.args.call.now.goal.now c.is_fine.ensures.sound c.instance.ensures.first c.instance.ensures.grows c.instance.ensures.rest
    c.fit.ensures.sound c.fit.ensures.first c.fit.ensures.grows c.fit.ensures.rest c.leave_rest.ensures.world c.leave_rest.ensures.first c.requires.call.first)

pub returns-in-Ok-false-clause-answer : goal.returns-in-Ok-false-clause-answer
returns-in-Ok-false-clause-answer g c = λ p k modes stands is next inputs.
    let has : HasMade c.args.self.now c.instance.new.self c.args.call.now (of_program c.args.clause k) c.in_ok-made.made.heads.items =
    record { fine = c.is_fine.ensures.fine; sound = c.is_fine.ensures.sound; is_call = c.requires.call; grows = c.instance.ensures.grows; rest = c.instance.ensures.rest; same = c.instance.ensures.first; head = (c.in_ok-made.ensures.made p k stands is).head } in
    clause-clashes c.args.self.now c.instance.new.self c.args.call.now (of_program c.args.clause k) c.in_ok-made.made.heads.items has modes inputs
    (subst (λ n. HasClashed n c.args.call.now.goal.now.depth c.args.call.now.inputs.now c.in_ok-made.made.heads.items c.args.call.now.args.now c.instance.new.self.world.heap) c.next_var-first_fresh.ensures
    (subst (λ hs. HasClashed c.next_var-first_fresh.result.index c.args.call.now.goal.now.depth c.args.call.now.inputs.now hs c.args.call.now.args.now c.instance.new.self.world.heap) c.as_slice.ensures.value
    (picked-false _ _ c.in-Ok-false.field-0 c.in-Ok-false.field-0-test c.in-Ok-false.ensures.answer)))

pub returns-in-Ok-false-clause-same : goal.returns-in-Ok-false-clause-same
returns-in-Ok-false-clause-same g c = λ no.
    let a : Saved = record { mark = c.here-first.result.0; first = c.here-first.result.1; left = Side } in
    gone-back c.args.self.now c.instance.new.self c.fit.new.self c.retreat.new.self a c.here-first.ensures.mark (c.here-first.ensures.can_go_back Side tt) c.instance.ensures.grows c.instance.ensures.rest c.fit.ensures.grows c.fit.ensures.rest
    c.retreat.ensures.world (c.retreat.ensures.first ∙ c.here-first.ensures.first) (c.retreat.ensures.saved ∙ c.fit.ensures.saved ∙ c.instance.ensures.saved) (c.retreat.ensures.phase ∙ c.fit.ensures.phase ∙ c.instance.ensures.phase)

pub returns-in-Err-clause-stops : goal.returns-in-Err-clause-stops
returns-in-Err-clause-stops g c = λ p k modes stands is inputs.
    let has : HasMade c.args.self.now c.instance.new.self c.args.call.now (of_program c.args.clause k) c.in_ok-made.made.heads.items =
    record { fine = c.is_fine.ensures.fine; sound = c.is_fine.ensures.sound; is_call = c.requires.call; grows = c.instance.ensures.grows; rest = c.instance.ensures.rest; same = c.instance.ensures.first; head = (c.in_ok-made.ensures.made p k stands is).head } in
    clause-breaks c.args.self.now c.instance.new.self c.args.call.now (of_program c.args.clause k) c.in_ok-made.made.heads.items has modes inputs c.in-Err.stop
    (subst (λ n. HasBroken n c.args.call.now.goal.now.depth c.args.call.now.inputs.now c.in_ok-made.made.heads.items c.args.call.now.args.now c.instance.new.self.world.heap c.in-Err.stop) c.next_var-first_fresh.ensures
    (subst (λ hs. HasBroken c.next_var-first_fresh.result.index c.args.call.now.goal.now.depth c.args.call.now.inputs.now hs c.args.call.now.args.now c.instance.new.self.world.heap c.in-Err.stop) c.as_slice.ensures.value
    c.in-Err.ensures.stops))

pub returns-clause-answer : goal.returns-clause-answer
returns-clause-answer g c = λ p k modes stands is next inputs.
    let has : HasMade c.args.self.now c.instance.new.self c.args.call.now (of_program c.args.clause k) c.in_ok-made.made.heads.items =
    record { fine = c.is_fine.ensures.fine; sound = c.is_fine.ensures.sound; is_call = c.requires.call; grows = c.instance.ensures.grows; rest = c.instance.ensures.rest; same = c.instance.ensures.first; head = (c.in_ok-made.ensures.made p k stands is).head } in
    let fitted : HasFitted (length c.args.self.now.world.heap.depths) c.args.call.now.goal.now.depth c.args.call.now.inputs.now c.in_ok-made.made.heads.items c.args.call.now.args.now c.instance.new.self c.fit.new.self =
    subst (λ n. HasFitted n c.args.call.now.goal.now.depth c.args.call.now.inputs.now c.in_ok-made.made.heads.items c.args.call.now.args.now c.instance.new.self c.fit.new.self) c.next_var-first_fresh.ensures
    (subst (λ hs. HasFitted c.next_var-first_fresh.result.index c.args.call.now.goal.now.depth c.args.call.now.inputs.now hs c.args.call.now.args.now c.instance.new.self c.fit.new.self) c.as_slice.ensures.value
    (picked-true _ _ c.in-Ok-true.field-0 c.in-Ok-true.field-0-test c.in-Ok-true.ensures.answer)) in
    let pred = c.args.call.now.pred in
    let at : Later → Saved = λ l. record { mark = c.here-first.result.0; first = c.here-first.result.1; left = LeftCall pred l } in
    let can : IfSome c.from_clause-rest.result (λ l. AllSaved c.args.self.now.world (at l ∷ c.args.self.now.saved)) =
    subst (λ o. IfSome o (λ l. AllSaved c.args.self.now.world (at l ∷ c.args.self.now.saved))) (sym c.from_clause-rest.ensures)
    (each-clause (λ l. AllSaved c.args.self.now.world (at l ∷ c.args.self.now.saved)) (λ j. c.here-first.ensures.can_go_back (LeftCall pred (Clauses j)) (call-left c.args.self.now c.args.call.now (Clauses j) c.requires.call tt)) c.args.later) in
    let left : IsLeftAfter p (branch_of c.args.self.now) pred (program_candidates pred.0 (suc c.args.clause) (drop (suc c.args.clause) p.clauses)) c.from_clause-rest.result =
    subst (IsLeftAfter p (branch_of c.args.self.now) pred (program_candidates pred.0 (suc c.args.clause) (drop (suc c.args.clause) p.clauses))) (sym c.from_clause-rest.ensures) next in
    let m0 = c.args.self.now in
    let m1 = c.instance.new.self in
    let m2 = c.fit.new.self in
    let m3 = c.leave_rest.new.self in
    let m4 = c.body.new.self in
    let call = c.args.call.now in
    let d = call.goal.now.depth in
    let made = c.in_ok-made.ensures.made p k stands is in
    let variables = c.in_ok-made.made.variables.items in
    let ts = all_read m4.world.heap (option_to_list c.in_ok-body.body) in
    let there = code-there (λ ns. g.C.Clauses.stands ns c.args.code.now p) m0 m1 m2 m3 c.instance.ensures.code c.fit.ensures.code c.leave_rest.ensures.world stands in
    let reads : ReadAsVariables m3.world.heap fitted.made d (length m0.world.heap.depths) variables =
    subst (λ w. ReadAsVariables w.heap fitted.made d (length m0.world.heap.depths) variables) (sym c.leave_rest.ensures.world)
    (variables-bound m0 m1 call (of_program c.args.clause k) c.in_ok-made.made.heads.items has m2 c.fit.ensures.sound fitted c.fit.ensures.grows c.fit.ensures.rest c.fit.ensures.first (length m0.world.heap.depths) variables made.valid made.reads) in
    let body = c.in_ok-body.ensures.made p k there is fitted.made (length m0.world.heap.depths) fitted.built reads in
    let first = first-after m0 m1 m2 m3 call.goal.now c.is_fine.ensures.sound c.instance.ensures.first c.instance.ensures.grows c.instance.ensures.rest
    c.fit.ensures.sound c.fit.ensures.first c.fit.ensures.grows c.fit.ensures.rest c.leave_rest.ensures.world c.leave_rest.ensures.first c.requires.call.first in
    record {
      fits = clause-fits m0 m1 call (of_program c.args.clause k) c.in_ok-made.made.heads.items has m2 c.fit.ensures.sound fitted c.fit.ensures.grows c.fit.ensures.rest c.fit.ensures.first modes inputs ts body _
          (c.in_ok-enter.ensures.branch
          ∙ terms-later m3 m4 call.goal.now c.alternatives-barrier.result ts (ByClause c.args.clause) first (c.body.ensures.first call.goal.now first) c.in_ok-body.ensures.branch
          ∙ terms-same m2 m3 call.goal.now (length m0.saved) c.alternatives-barrier.result ts ts (ByClause c.args.clause) c.leave_rest.ensures.world c.leave_rest.ensures.first c.alternatives-barrier.ensures refl);
      alternatives = later-left p m0 m1 m2 m3 c.enter.new.self pred c.here-first.result.0 c.here-first.result.1
          (program_candidates pred.0 (suc c.args.clause) (drop (suc c.args.clause) p.clauses)) c.from_clause-rest.result left
          c.here-first.ensures.mark c.here-first.ensures.first can
          c.instance.ensures.grows c.instance.ensures.rest c.fit.ensures.grows c.fit.ensures.rest (c.instance.ensures.alternatives p) (c.fit.ensures.alternatives p) (c.in_ok-leave_rest.ensures.alternatives p) (c.enter.ensures.alternatives p ∙ c.body.ensures.alternatives p);
    }
