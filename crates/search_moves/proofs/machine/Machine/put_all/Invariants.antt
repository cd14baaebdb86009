use Rattle.search_moves.proofs.PutLemmas.{IsPutting}
use Rattle.search_moves.proofs.machine.Machine.put_all.Given as goal

-- the goals from the place on are there
abbrev pub invariant-loop-left : goal.invariant-loop-left
invariant-loop-left l = IsPutting l.fn.self l.goal l.barrier l.body l.self l.left

abbrev pub decreases-loop-left : goal.decreases-loop-left
decreases-loop-left l = l.left
