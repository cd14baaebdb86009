use Rattle.std.proofs.Common.{take}
use Rattle.level_terms.specs.Gains.{GainsNodes}
use Rattle.suspend.specs.Keyed.{keys_read}
use Rattle.suspend.specs.inside.Waking.{AreHeadedBy}
use Rattle.suspend.proofs.looking.heads_of.Given as goal

abbrev pub invariant-loop-key : goal.invariant-loop-key
invariant-loop-key l = GainsNodes l.fn.heap l.heap × AreHeadedBy (keys_read l.fn.heap (take l.key-index l.keys)) l.variables.items
