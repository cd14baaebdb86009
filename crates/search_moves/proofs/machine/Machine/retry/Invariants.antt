use Rattle.std.proofs.Common.{◌≡◌, length}
use Rattle.ref_terms.specs.unification.Unification.{unify}
use Rattle.ref_terms.specs.search.Program.{Program}
use Rattle.ref_terms.specs.search.Next.{retry}
use Rattle.search_moves.specs.World.{code_nodes}
use Rattle.search_moves.specs.Machine.{alternatives_of}
use Rattle.search_moves.proofs.machine.Machine.retry.Given as goal

-- what the alternatives that are left come to is what all of them come to
abbrev pub invariant-loop-left : goal.invariant-loop-left
invariant-loop-left g l =
    (code_nodes l.self.world ≡ code_nodes l.fn.self.world)
    × ((p : Program) → g.C.Clauses.stands (code_nodes l.fn.self.world) l.code p → retry unify p (alternatives_of p l.fn.self) ≡ retry unify p (alternatives_of p l.self))

abbrev pub decreases-loop-left : goal.decreases-loop-left
decreases-loop-left g l = length l.self.saved
