-- The nodes of the program's clauses stay.
use Rattle.std.proofs.Common.{◌≡◌, ℕ, ap, ◌∙◌, arith}
use Rattle.search_moves.specs.declared.frame.Mark.{Mark}
use Rattle.search_moves.specs.World.{World, undone, oldest, IsWithin, IsFine, code_nodes}
use Rattle.search_moves.specs.Moves.{Growing, LeavesRest}
use Rattle.search_moves.proofs.ListLemmas.{oldest-append, oldest-oldest, oldest-length}

-- where the heap grows
pub code-grown : (w w' : World) (first : ℕ) → Growing w.heap w'.heap → LeavesRest w w' → IsFine w first → code_nodes w' ≡ code_nodes w
code-grown w w' first g r fine =
    ap (λ n. oldest n w'.heap.nodes) r.base ∙ ap (oldest w.base) g.grows.nodes ∙ oldest-append g.grows.new_nodes w.heap.nodes w.base fine.code

-- where it goes back to a mark
pub code-undone : (m : Mark) (w : World) (first : ℕ) → IsWithin m w → IsFine (undone m w) first → code_nodes (undone m w) ≡ code_nodes w
code-undone m w first v fine =
    oldest-oldest w.base m.heap.nodes w.heap.nodes (omega (arith, fine.code, oldest-length m.heap.nodes w.heap.nodes v.heap.nodes)) v.heap.nodes
