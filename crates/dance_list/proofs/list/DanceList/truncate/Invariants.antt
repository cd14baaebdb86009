use Rattle.std.proofs.Common.{◌≡◌, ◌+◌, List, ◌++◌, map, length}
use Rattle.dance_list.specs.Dance.{nodes, linked, unlinked}
use Rattle.dance_list.specs.declared.cells.Node.{Node}
use Rattle.dance_list.proofs.list.DanceList.truncate.Given as goal

-- what is gone, and what is still to go
abbrev pub invariant-loop : goal.invariant-loop
invariant-loop g l =
    ((gone : List (Node × g.row.T.Denot)) × (length gone ≡ l.counter) × (linked l.fn.self ≡ linked l.self ++ gone) × (nodes l.fn.self ≡ nodes l.self ++ map (λ z. z.0) gone))
    × ((ls : List (Node × g.row.T.Denot)) × (ms : List (Node × g.row.T.Denot)) × (ns : List Node) × (linked l.self ≡ ls ++ ms) × (length ms + l.counter ≡ l.k) × (nodes l.self ≡ ns ++ map (λ z. z.0) ms))
    × (unlinked l.self ≡ unlinked l.fn.self)
