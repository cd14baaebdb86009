use Rattle.std.proofs.Common.{reverse, refl, ap, length, ◌≡◌, ◌∙◌, subst, IfOk, IfErr, MatchBool, IfErr}
use Rattle.search_moves.specs.Matching.{HeadFits, HeadClashes, HeadStops}
use Rattle.search_moves.specs.Calling.{HasFitted, HasClashed, HasBroken}
use Rattle.search_moves.specs.Machine.{Machine, alternatives_of}
use Rattle.search_moves.specs.World.{code_nodes}
use Rattle.search_moves.proofs.CodeLemmas.{code-grown}
use Rattle.search_moves.proofs.SavedLemmas.{all-kept, all-read-kept}
use Rattle.search_moves.proofs.GrowLemmas.{grow-keeps, grow-fine, fitted-machine, answer-maps, made-at, made-stops, if-err}
use Rattle.search_moves.proofs.machine.Machine.attempt.Goals as goal

pub invariant_of-self : goal.invariant_of-self
invariant_of-self c =
    let w = c.self.inside.stage in
    let w' = c.match_head.new.self in
    let saved = reverse c.self.inside.choices in
    record {
      fine = grow-fine w w' c.self.inside.first c.is_sound.ensures c.match_head.ensures.grows c.match_head.ensures.rest c.self.invariant.fine;
      saved = all-kept w w' saved c.self.invariant.saved (grow-keeps w w' saved c.match_head.ensures.grows c.match_head.ensures.rest c.self.invariant.saved);
    }

pub returns-clause-answer : goal.returns-clause-answer
returns-clause-answer c =
    let w = c.self.inside.stage in
    let w' = c.match_head.new.self in
    let n = c.args.first_fresh.index in
    let d = c.args.depth in
    let ms = c.args.inputs.now in
    let hs = c.args.heads.now in
    let ts = c.args.args.now in
    let m : Machine = record { world = w; first = c.self.inside.first; saved = reverse c.self.inside.choices; phase = c.self.inside.phase } in
    let m' : Machine = record { world = w'; first = c.self.inside.first; saved = reverse c.self.inside.choices; phase = c.self.inside.phase } in
    let long : length hs ≡ length ts = c.requires.as_many in
    let here = answer-maps c.match_head.result
    (HeadFits n d ms hs ts w.heap w'.heap) (HasFitted n d ms hs ts m m')
    (HeadClashes n d ms hs ts w.heap) (HasClashed n d ms hs ts w.heap)
    (fitted-machine n d ms hs ts m m' long c.self.invariant.fine refl c.match_head.ensures.rest)
    (λ h b. made-at w.heap n d ms hs ts b long ∙ h b) c.match_head.ensures.answer in
    subst (λ z. IfOk c.match_head.result (λ b. MatchBool b (HasFitted n d ms hs ts z m') (HasClashed n d ms hs ts z.world.heap))) c.self.view_is here

pub returns-clause-stops : goal.returns-clause-stops
returns-clause-stops c =
    let w = c.self.inside.stage in
    let n = c.args.first_fresh.index in
    let d = c.args.depth in
    let ms = c.args.inputs.now in
    let hs = c.args.heads.now in
    let ts = c.args.args.now in
    let long : length hs ≡ length ts = c.requires.as_many in
    let here = if-err c.match_head.result (HeadStops n d ms hs ts w.heap) (HasBroken n d ms hs ts w.heap) (λ stop h. made-stops w.heap n d ms hs ts stop long h) c.match_head.ensures.stops in
    subst (λ z. IfErr c.match_head.result (HasBroken n d ms hs ts z.world.heap)) c.self.view_is here

pub returns-clause-alternatives : goal.returns-clause-alternatives
returns-clause-alternatives c = λ p.
    let w = c.self.inside.stage in
    let w' = c.match_head.new.self in
    let saved = reverse c.self.inside.choices in
    all-read-kept p w w' saved c.self.invariant.saved (grow-keeps w w' saved c.match_head.ensures.grows c.match_head.ensures.rest c.self.invariant.saved)
    ∙ ap (alternatives_of p) c.self.view_is

pub returns-clause-code : goal.returns-clause-code
returns-clause-code c =
    code-grown c.self.inside.stage c.match_head.new.self c.self.inside.first c.match_head.ensures.grows c.match_head.ensures.rest c.self.invariant.fine
    ∙ ap (λ m. code_nodes m.world) c.self.view_is
