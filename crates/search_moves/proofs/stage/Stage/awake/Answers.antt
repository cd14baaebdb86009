use Rattle.std.proofs.Common.{subst}
use Rattle.search_moves.specs.Moves.{LeavesRest}
use Rattle.search_moves.specs.StageView.{world_of}
use Rattle.search_moves.proofs.RestLemmas.{leaves-looked}
use Rattle.search_moves.proofs.stage.Stage.awake.Goals as goal

pub returns-clause-rest : goal.returns-clause-rest
returns-clause-rest c =
    let w = world_of c.self.inside in
    let h = c.awake.new.heap in
    let log = c.awake.new.self in
    subst (λ z. LeavesRest z (record w { heap = h; log = log })) c.self.view_is (leaves-looked w h log c.awake.ensures.same c.awake.ensures.later c.awake.ensures.keyed)
