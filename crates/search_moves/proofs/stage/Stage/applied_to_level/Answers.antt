use Rattle.std.proofs.Common.{subst}
use Rattle.search_moves.specs.Moves.{LeavesRest}
use Rattle.search_moves.specs.StageView.{world_of}
use Rattle.search_moves.proofs.RestLemmas.{leaves-grown}
use Rattle.search_moves.proofs.stage.Stage.applied_to_level.Goals as goal

pub returns-clause-rest : goal.returns-clause-rest
returns-clause-rest c =
    let w = world_of c.self.inside in
    let h = c.applied_to_level.new.heap in
    subst (λ z. LeavesRest z (record w { heap = h })) c.self.view_is (leaves-grown w h c.is_sound.ensures c.applied_to_level.ensures.grows)
