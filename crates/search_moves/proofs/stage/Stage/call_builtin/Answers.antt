use Rattle.std.proofs.Common.{subst, ap, ◌∙◌, drop}
use Rattle.search_moves.specs.Moves.{LeavesRest}
use Rattle.search_moves.specs.StageView.{world_of}
use Rattle.search_moves.proofs.RestLemmas.{leaves-followed}
use Rattle.search_moves.proofs.stage.Stage.call_builtin.Goals as goal

pub returns-clause-rest : goal.returns-clause-rest
returns-clause-rest c =
    let w = world_of c.self.inside in
    let h = c.call_builtin-answer.new.heap in
    let log = c.follow.new.self in
    let entries = c.since.ensures ∙ ap (λ n. drop n c.call_builtin-answer.new.trail.entries) c.mark-noted.ensures in
    subst (λ z. LeavesRest z (record w { heap = h; log = log })) c.self.view_is
    (leaves-followed w h log _ _ _ c.is_sound.ensures c.call_builtin-answer.ensures.grows entries c.follow.ensures.keyed c.follow.ensures.same c.follow.ensures.later)
