use Rattle.std.proofs.Common.{◌≤◌, length, reverse, ap, ◌∙◌, arith}
use Rattle.std.proofs.lemmas.List.{length-reverse}
use Rattle.search_moves.specs.World.{World, oldest}
use Rattle.search_moves.proofs.StageLemmas.{reverse-oldest}
use Rattle.search_moves.proofs.stage.Stage.cut.Goals as goal

pub returns : goal.returns
returns c =
    let fs = c.self.inside.frames.items in
    let few : c.args.n ≤ length fs = omega (arith, c.requires, ap (λ w. length w.frames) c.self.view_is, length-reverse fs) in
    let frames = ap reverse c.truncate.ensures.items ∙ reverse-oldest c.args.n fs few in
    (λ i. record { heap = c.self.inside.heap; frames = frames i; path = reverse c.self.inside.path.items; log = c.self.inside.store; query = c.self.inside.query.items; base = c.self.inside.base })
    ∙ ap (λ (w : World). record w { frames = oldest c.args.n w.frames }) c.self.view_is
