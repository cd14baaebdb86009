use Rattle.std.proofs.Common.{◌∙◌, ap, sym, reverse}
use Rattle.watch_lists.specs.Rows.{numbers_after}
use Rattle.watch_lists.specs.inside.Cells.{from_cell, list_at}
use Rattle.watch_lists.proofs.CellLemmas.{numbers-from}
use Rattle.watch_lists.proofs.WatchLists.is_empty.Goals as goal

pub returns-in-None : goal.returns-in-None
returns-in-None c =
    let cells = reverse c.self.inside.cells.items in
    λ _. ap (λ log. numbers_after log c.args.subject) (sym c.self.view_is)
    ∙ numbers-from (reverse c.self.inside.cells.items) c.args.subject c.self.invariant.0
    ∙ ap (from_cell (list_at (reverse c.self.inside.cells.items))) (sym (c.self.invariant.1 c.args.subject) ∙ sym c.first_of.ensures ∙ c.in-None.is)
