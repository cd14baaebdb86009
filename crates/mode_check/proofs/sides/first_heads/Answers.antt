use Rattle.std.proofs.Common.{◌∙◌, sym, ap}
use Rattle.std.proofs.lemmas.Option.{slice_get_within, get_or_from_slice_get}
use Rattle.lp_resolve.specs.StaticRules.{goals_of, has_whole}
use Rattle.mode_check.specs.Sides.{unless_seen}
use Rattle.mode_check.proofs.Sightings.{head_with-more}
use Rattle.mode_check.proofs.sides.first_heads.Goals as goal

pub loop-index-preserved : goal.loop-index-preserved
loop-index-preserved c = λ v.
    let goals = goals_of c.args.rule.now in
    let i = c.loop-index.index in
    let g = c.goal_at.result.now in
    c.in_ok-note_head.ensures v ∙ ap (λ o. unless_seen o (has_whole v g) i) (c.loop-index.invariant v)
    ∙ sym (head_with-more v goals i g (slice_get_within goals i g c.goal_at.ensures) (sym (get_or_from_slice_get goals i g g c.goal_at.ensures)))
