use Rattle.std.proofs.Common.{◌≤◌, length, reverse, ap, ◌∙◌, arith}
use Rattle.std.proofs.lemmas.List.{length-reverse}
use Rattle.search_moves.specs.World.{undone}
use Rattle.search_moves.proofs.StageLemmas.{reverse-oldest}
use Rattle.search_moves.proofs.stage.Stage.undo.Goals as goal

pub returns : goal.returns
returns c =
    let fs = c.self.inside.frames.items in
    let ps = c.self.inside.path.items in
    let few : c.args.m.frames ≤ length fs = omega (arith, c.requires.within.frames, ap (λ w. length w.frames) c.self.view_is, length-reverse fs) in
    let short : c.args.m.path ≤ length ps = omega (arith, c.requires.within.path, ap (λ w. length w.path) c.self.view_is, length-reverse ps) in
    let heap = c.undo.ensures.heap in
    let frames = ap reverse c.truncate.ensures.items ∙ reverse-oldest c.args.m.frames fs few in
    let path = ap reverse c.truncate-2.ensures.items ∙ reverse-oldest c.args.m.path ps short in
    let log = c.undo-2.ensures.log in
    (λ i. record { heap = heap i; frames = frames i; path = path i; log = log i; query = c.self.inside.query.items; base = c.self.inside.base }) ∙ ap (undone c.args.m) c.self.view_is
