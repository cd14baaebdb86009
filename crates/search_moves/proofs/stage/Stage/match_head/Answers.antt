use Rattle.std.proofs.Common.{false}
use Rattle.pattern_unify.specs.Answers.{AnswersTrue, AnswersFalse}
use Rattle.search_moves.specs.Solving.{problem_of_all}
use Rattle.search_moves.specs.Matching.{HeadFits, HeadClashes}
use Rattle.search_moves.proofs.FrameLemmas.{all-valid-grown}
use Rattle.search_moves.proofs.RestLemmas.{leaves-trans}
use Rattle.search_moves.proofs.SolveLemmas.{growing-trans, picked-true}
use Rattle.search_moves.proofs.HeadLemmas.{outputs-clash, outputs-stop, outputs-fit, both-ways}
use Rattle.search_moves.proofs.stage.Stage.match_head.Goals as goal

pub solve-requires-2-clause-heads : goal.solve-requires-2-clause-heads
solve-requires-2-clause-heads c = all-valid-grown c.args.self.now.heap c.solve.new.self.heap c.solve.ensures.grows.before c.solve.ensures.grows.after c.args.depth c.is_sound.ensures c.solve.ensures.grows.grows c.args.heads.now c.requires.heads

pub solve-requires-2-clause-args : goal.solve-requires-2-clause-args
solve-requires-2-clause-args c = all-valid-grown c.args.self.now.heap c.solve.new.self.heap c.solve.ensures.grows.before c.solve.ensures.grows.after c.args.depth c.is_sound.ensures c.solve.ensures.grows.grows c.args.args.now c.requires.args

pub returns-in-Ok-clause-answer : goal.returns-in-Ok-clause-answer
returns-in-Ok-clause-answer c =
    let g = c.args.self.now.heap in
    let h = c.solve.new.self.heap in
    let new = c.solve-2.new.self.heap in
    let m = c.args.first_fresh.index in
    let ms = c.args.inputs.now in
    let hs = c.args.heads.now in
    let ts = c.args.args.now in
    let d = c.args.depth in
    let inputs = picked-true _ _ c.in-Ok-true.field-0 c.in-Ok-true.field-0-test c.in-Ok-true.ensures.answer in
    both-ways (AnswersTrue 0 h new (problem_of_all h false d ms hs ts)) (HeadFits m d ms hs ts g new) (AnswersFalse 0 (problem_of_all h false d ms hs ts)) (HeadClashes m d ms hs ts g) c.in-Ok.fits
    (outputs-fit m d ms hs ts g c.requires.heads c.requires.args h inputs.0 inputs.1 inputs.2 new c.solve.ensures.grows)
    (outputs-clash m d ms hs ts g c.requires.heads c.requires.args h inputs.0 inputs.1 inputs.2)
    c.in-Ok.ensures.answer

pub returns-in-Ok-clause-grows : goal.returns-in-Ok-clause-grows
returns-in-Ok-clause-grows c = growing-trans c.args.self.now.heap c.solve.new.self.heap c.solve-2.new.self.heap c.solve.ensures.grows c.solve-2.ensures.grows

pub returns-in-Err-solve-clause-stops : goal.returns-in-Err-solve-clause-stops
returns-in-Err-solve-clause-stops c =
    let inputs = picked-true _ _ c.in-Ok-true.field-0 c.in-Ok-true.field-0-test c.in-Ok-true.ensures.answer in
    outputs-stop c.args.first_fresh.index c.args.depth c.args.inputs.now c.args.heads.now c.args.args.now c.args.self.now.heap c.requires.heads c.requires.args c.solve.new.self.heap inputs.0 inputs.1 inputs.2 c.in-Err-solve.stop c.in-Err-solve.ensures.stops

pub returns-in-Err-solve-clause-grows : goal.returns-in-Err-solve-clause-grows
returns-in-Err-solve-clause-grows c = growing-trans c.args.self.now.heap c.solve.new.self.heap c.solve-2.new.self.heap c.solve.ensures.grows c.solve-2.ensures.grows

pub returns-in-Ok-clause-rest : goal.returns-in-Ok-clause-rest
returns-in-Ok-clause-rest c = leaves-trans c.args.self.now c.solve.new.self c.solve-2.new.self c.solve.ensures.rest c.solve-2.ensures.rest

pub returns-in-Err-solve-clause-rest : goal.returns-in-Err-solve-clause-rest
returns-in-Err-solve-clause-rest c = leaves-trans c.args.self.now c.solve.new.self c.solve-2.new.self c.solve.ensures.rest c.solve-2.ensures.rest
