use Rattle.std.proofs.Common.{◌≡◌, ◌∙◌, ap, ap₂, sym, reverse, ◌++◌, []}
use Rattle.watch_lists.specs.Rows.{numbers_after}
use Rattle.watch_lists.specs.inside.Cells.{with_one, first_at}
use Rattle.watch_lists.proofs.CellLemmas.{begins}
use Rattle.watch_lists.proofs.WatchLists.numbers.Goals as goal

pub loop-cell-init : goal.loop-cell-init
loop-cell-init c =
    let s = c.args.subject in
    let first : reverse c.push_one.new.stack.items ≡ with_one (first_at (reverse c.self.inside.cells.items) c.args.subject) [] =
    c.in_ok-push_one.ensures ∙ ap₂ with_one (c.first_of.ensures ∙ c.self.invariant.1 c.args.subject) (ap reverse c.new-stack.ensures.items) in
    let b = begins (reverse c.self.inside.cells.items) c.args.subject c.args.out.now.items (reverse c.push_one.new.stack.items) c.self.invariant.0 first in
    (c.self.invariant.0, b.0, ap (λ log. c.args.out.now.items ++ numbers_after log c.args.subject) (sym c.self.view_is) ∙ b.1)
