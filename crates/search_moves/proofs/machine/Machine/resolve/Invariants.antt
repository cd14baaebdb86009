use Rattle.std.proofs.Common.{◌≡◌}
use Rattle.ref_terms.specs.search.Program.{Program}
use Rattle.search_moves.specs.World.{code_nodes}
use Rattle.search_moves.specs.Calling.{IsTryingNext}
use Rattle.search_moves.proofs.TryLemmas.{left_to_try}
use Rattle.search_moves.proofs.machine.Machine.resolve.Given as goal

-- the machine is as it was, and the clauses before the next one clash
abbrev pub invariant-loop-next : goal.invariant-loop-next
invariant-loop-next g l =
    (l.self ≡ l.fn.self) × ((p : Program) → g.C.Clauses.stands (code_nodes l.fn.self.world) l.code p → IsTryingNext p l.fn.self l.call l.fn.from l.next)

abbrev pub decreases-loop-next : goal.decreases-loop-next
decreases-loop-next g l = left_to_try l.count l.next
