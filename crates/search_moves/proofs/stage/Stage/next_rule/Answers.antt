use Rattle.std.proofs.Common.{subst, sym, ap, ◌∙◌, drop}
use Rattle.suspend.specs.Store.{stored}
use Rattle.search_moves.specs.World.{AllConstraints}
use Rattle.search_moves.specs.Moves.{LeavesRest}
use Rattle.search_moves.specs.StageView.{world_of}
use Rattle.search_moves.proofs.ConstraintLemmas.{constraints-sequents}
use Rattle.search_moves.proofs.RestLemmas.{leaves-followed}
use Rattle.search_moves.proofs.stage.Stage.next_rule.Goals as goal

pub next_rule-answer-requires-clause-constraints : goal.next_rule-answer-requires-clause-constraints
next_rule-answer-requires-clause-constraints g c =
    constraints-sequents c.self.inside.heap (stored c.self.inside.store) (subst (λ w. AllConstraints w.heap (stored w.log)) (sym c.self.view_is) c.requires.constraints)

pub returns-clause-rest : goal.returns-clause-rest
returns-clause-rest g c =
    let w = world_of c.self.inside in
    let h = c.next_rule-answer.new.heap in
    let log = c.follow.new.self in
    let entries = c.since.ensures ∙ ap (λ n. drop n c.next_rule-answer.new.trail.entries) c.mark-noted.ensures in
    subst (λ z. LeavesRest z (record w { heap = h; log = log })) c.self.view_is
    (leaves-followed w h log _ _ _ c.is_sound.ensures c.next_rule-answer.ensures.grows entries c.follow.ensures.keyed c.follow.ensures.same c.follow.ensures.later)
