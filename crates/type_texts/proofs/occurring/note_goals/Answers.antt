use Rattle.type_texts.specs.Occurring.{goal_constants}
use Rattle.type_texts.proofs.Noting.{noted-more}
use Rattle.type_texts.proofs.occurring.note_goals.Goals as goal

pub loop-head-preserved : goal.loop-head-preserved
loop-head-preserved c =
    noted-more goal_constants c.args.constants.now.keys c.loop-head.constants.keys c.note_tree.new.constants.keys c.args.heads.now c.loop-head.head-index c.head-item.result c.loop-head-test.true c.head-item.is
    c.loop-head.invariant c.in_ok-note_tree.ensures
