use Rattle.std.proofs.Common.{◌≡◌, take, flat_map}
use Rattle.type_texts.specs.TypeText.{noted_all}
use Rattle.type_texts.specs.Occurring.{goal_constants}
use Rattle.type_texts.proofs.occurring.note_goals.Given as goal

abbrev pub invariant-loop-head : goal.invariant-loop-head
invariant-loop-head l = l.constants.keys ≡ noted_all l.fn.constants.keys (flat_map goal_constants (take l.head-index l.heads))
