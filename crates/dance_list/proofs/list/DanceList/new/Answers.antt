use Rattle.dance_list.proofs.Dances.{nothing-yet}
use Rattle.dance_list.proofs.list.DanceList.new.Goals as goal

pub invariant_of-result : goal.invariant_of-result
invariant_of-result g c = nothing-yet c.new.result.blocks c.new-2.result.items c.new-3.result.linked c.new-3.result.unlinked c.new.ensures c.new-2.ensures.items c.new-3.ensures.0 c.new-3.ensures.1
