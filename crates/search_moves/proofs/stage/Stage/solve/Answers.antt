use Rattle.std.proofs.Common.{◌≡◌, suc, ◌+◌, true, false, sym, ◌∙◌, subst, arith, slice_index_or}
use Rattle.std.specs.Cmp.{booleans_Decides}
use Rattle.search_moves.specs.World.{World}
use Rattle.search_moves.proofs.RestLemmas.{leaves-trans}
use Rattle.search_moves.specs.Solving.{IsUnderway}
use Rattle.search_moves.proofs.SolveLemmas.{underway-starts, head-valid, arg-valid, underway-skips, underway-goes, underway-clashes, underway-stops, underway-ends, in_modes, in_heads, past, growing-trans, picked-true, picked-false}
use Rattle.search_moves.proofs.stage.Stage.solve.Goals as goal
use Rattle.search_moves.proofs.stage.Stage.solve.Goals.{then-inputs-i+in-Ok-true, else-inputs-i}

pub loop-i-init : goal.loop-i-init
loop-i-init c = underway-starts c.args.first_fresh.index c.args.mode c.args.depth c.args.inputs.now c.args.heads.now c.args.args.now c.args.self.now c.requires.heads c.requires.args c.requires.as_many c.requires.first

pub match_arg-requires-clause-head : goal.match_arg-requires-clause-head
match_arg-requires-clause-head c = head-valid c.args.first_fresh.index c.args.mode c.args.depth c.args.inputs.now c.args.heads.now c.args.args.now c.args.self.now c.requires.heads c.requires.args c.requires.as_many c.loop-i.self c.loop-i.i c.loop-i.invariant (in_modes c.args.inputs.now c.args.heads.now _ _ c.min-count.ensures c.loop-i-test.true) (in_heads c.args.inputs.now c.args.heads.now _ _ c.min-count.ensures c.loop-i-test.true)

pub match_arg-requires-clause-argument : goal.match_arg-requires-clause-argument
match_arg-requires-clause-argument c = arg-valid c.args.first_fresh.index c.args.mode c.args.depth c.args.inputs.now c.args.heads.now c.args.args.now c.args.self.now c.requires.heads c.requires.args c.requires.as_many c.loop-i.self c.loop-i.i c.loop-i.invariant (in_modes c.args.inputs.now c.args.heads.now _ _ c.min-count.ensures c.loop-i-test.true) (in_heads c.args.inputs.now c.args.heads.now _ _ c.min-count.ensures c.loop-i-test.true)

pub returns-in-Ok-false-clause-answer : goal.returns-in-Ok-false-clause-answer
returns-in-Ok-false-clause-answer c =
    let same = (booleans_Decides (slice_index_or c.args.inputs.now c.loop-i.i false) c.args.mode).0 c.if-inputs-i.true in
    underway-clashes c.args.first_fresh.index c.args.mode c.args.depth c.args.inputs.now c.args.heads.now c.args.args.now c.args.self.now c.requires.heads c.requires.args c.requires.as_many c.loop-i.self c.loop-i.i c.loop-i.invariant (in_modes c.args.inputs.now c.args.heads.now _ _ c.min-count.ensures c.loop-i-test.true) (in_heads c.args.inputs.now c.args.heads.now _ _ c.min-count.ensures c.loop-i-test.true) same (picked-false _ _ c.in-Ok-false.field-0 c.in-Ok-false.field-0-test c.in-Ok-false.ensures.answer)

pub returns-in-Ok-false-clause-grows : goal.returns-in-Ok-false-clause-grows
returns-in-Ok-false-clause-grows c = growing-trans c.args.self.now.heap c.loop-i.self.heap c.match_arg.new.self.heap c.loop-i.invariant.solving.grows c.match_arg.ensures.grows

pub returns-in-Err-clause-stops : goal.returns-in-Err-clause-stops
returns-in-Err-clause-stops c =
    let same = (booleans_Decides (slice_index_or c.args.inputs.now c.loop-i.i false) c.args.mode).0 c.if-inputs-i.true in
    underway-stops c.args.first_fresh.index c.args.mode c.args.depth c.args.inputs.now c.args.heads.now c.args.args.now c.args.self.now c.requires.heads c.requires.args c.requires.as_many c.loop-i.self c.loop-i.i c.loop-i.invariant (in_modes c.args.inputs.now c.args.heads.now _ _ c.min-count.ensures c.loop-i-test.true) (in_heads c.args.inputs.now c.args.heads.now _ _ c.min-count.ensures c.loop-i-test.true) c.in-Err.stop same c.in-Err.ensures.stops

pub returns-in-Err-clause-grows : goal.returns-in-Err-clause-grows
returns-in-Err-clause-grows c = growing-trans c.args.self.now.heap c.loop-i.self.heap c.match_arg.new.self.heap c.loop-i.invariant.solving.grows c.match_arg.ensures.grows

pub returns-in-Ok-false-clause-rest : goal.returns-in-Ok-false-clause-rest
returns-in-Ok-false-clause-rest c = leaves-trans c.args.self.now c.loop-i.self c.match_arg.new.self c.loop-i.invariant.rest c.match_arg.ensures.rest

pub returns-in-Err-clause-rest : goal.returns-in-Err-clause-rest
returns-in-Err-clause-rest c = leaves-trans c.args.self.now c.loop-i.self c.match_arg.new.self c.loop-i.invariant.rest c.match_arg.ensures.rest

pub loop-i-preserved : goal.loop-i-preserved
loop-i-preserved c =
    let next : suc c.loop-i.i ≡ c.loop-i.i + 1 = omega arith in
    let at : World → Type 0 = λ z. IsUnderway c.args.first_fresh.index c.args.mode c.args.depth c.args.inputs.now c.args.heads.now c.args.args.now c.args.self.now z (c.loop-i.i + 1) in
    elim c.if-inputs-i.branch [
      | then-inputs-i+in-Ok-true w ↦
          let same = (booleans_Decides (slice_index_or c.args.inputs.now c.loop-i.i false) c.args.mode).0 w.if-inputs-i.true in
          subst at (sym w.self-is) (subst (λ n. IsUnderway c.args.first_fresh.index c.args.mode c.args.depth c.args.inputs.now c.args.heads.now c.args.args.now c.args.self.now w.match_arg.new.self n) next
          (underway-goes c.args.first_fresh.index c.args.mode c.args.depth c.args.inputs.now c.args.heads.now c.args.args.now c.args.self.now c.requires.heads c.requires.args c.requires.as_many c.loop-i.self c.loop-i.i c.loop-i.invariant (in_modes c.args.inputs.now c.args.heads.now _ _ c.min-count.ensures c.loop-i-test.true) (in_heads c.args.inputs.now c.args.heads.now _ _ c.min-count.ensures c.loop-i-test.true)
          w.match_arg.new.self same w.is_sound.ensures w.match_arg.ensures.grows w.match_arg.ensures.rest (picked-true _ _ w.in-Ok-true.field-0 w.in-Ok-true.field-0-test w.in-Ok-true.ensures.answer)))
      | else-inputs-i w ↦
          let differ = λ (e : slice_index_or c.args.inputs.now c.loop-i.i false ≡ c.args.mode). absurd (let z : true ≡ false = sym ((booleans_Decides (slice_index_or c.args.inputs.now c.loop-i.i false) c.args.mode).1 e) ∙ w.if-inputs-i.false in cc) in
          subst at (sym w.self-is) (subst (λ n. IsUnderway c.args.first_fresh.index c.args.mode c.args.depth c.args.inputs.now c.args.heads.now c.args.args.now c.args.self.now c.loop-i.self n) next
          (underway-skips c.args.first_fresh.index c.args.mode c.args.depth c.args.inputs.now c.args.heads.now c.args.args.now c.args.self.now c.requires.heads c.requires.args c.requires.as_many c.loop-i.self c.loop-i.i c.loop-i.invariant (in_modes c.args.inputs.now c.args.heads.now _ _ c.min-count.ensures c.loop-i-test.true) (in_heads c.args.inputs.now c.args.heads.now _ _ c.min-count.ensures c.loop-i-test.true) differ))
    ]

pub returns-clause-answer : goal.returns-clause-answer
returns-clause-answer c =
    underway-ends c.args.first_fresh.index c.args.mode c.args.depth c.args.inputs.now c.args.heads.now c.args.args.now c.args.self.now c.requires.heads c.requires.args c.requires.as_many c.loop-i.self c.loop-i.i c.loop-i.invariant (past c.args.inputs.now c.args.heads.now _ _ c.min-count.ensures c.loop-i-test.false)
