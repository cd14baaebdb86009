use Rattle.mode_check.proofs.GoalPlaces.{goal-removed}
use Rattle.mode_check.proofs.heads.goal_at.Goals as goal

pub returns-else-index-kept : goal.returns-else-index-kept
returns-else-index-kept c =
    goal-removed c.args.rule.now c.as_slice-kept.result.now c.as_slice.result.now c.args.index c.index-as_slice-index.result
    c.as_slice-kept.ensures c.as_slice.ensures c.if-index-kept.false c.requires
