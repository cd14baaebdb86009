use Rattle.std.proofs.Common.{◌≡◌, map}
use Rattle.dance_list.proofs.list.DanceList.drop.Given as goal

-- each node that is left has its block
abbrev pub invariant-loop-n : goal.invariant-loop-n
invariant-loop-n g l = map (λ m. m.place.ptr) l.nodes.items ≡ map (λ z. z.0) l.chain.cells.blocks

abbrev pub decreases-loop-n : goal.decreases-loop-n
decreases-loop-n g l = l.nodes.len
