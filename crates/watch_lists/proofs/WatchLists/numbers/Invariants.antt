use Rattle.std.proofs.Common.{◌≡◌, ◌++◌, reverse}
use Rattle.watch_lists.specs.Rows.{numbers_after}
use Rattle.watch_lists.specs.inside.Cells.{IsLinked, AllCells, lists_at, weights_at}
use Rattle.watch_lists.proofs.WatchLists.numbers.Given as goal

abbrev pub invariant-loop-cell : goal.invariant-loop-cell
invariant-loop-cell l =
    IsLinked (reverse l.self-inside.cells.items)
    × AllCells (reverse l.self-inside.cells.items) (reverse l.stack.items)
    × (l.fn.out.items ++ numbers_after l.fn.self l.fn.subject ≡ l.out.items ++ lists_at (reverse l.self-inside.cells.items) (reverse l.stack.items))

abbrev pub decreases-loop-cell : goal.decreases-loop-cell
decreases-loop-cell l = weights_at (reverse l.self-inside.cells.items) (reverse l.stack.items)
