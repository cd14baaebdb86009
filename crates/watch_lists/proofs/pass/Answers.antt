use Rattle.std.proofs.Common.{◌∙◌, ap, reverse, arith}
use Rattle.std.proofs.lemmas.List.{length-reverse}
use Rattle.watch_lists.specs.inside.Cells.{with_one}
use Rattle.watch_lists.proofs.CellLemmas.{passes, cell-passed}
use Rattle.watch_lists.proofs.pass.Goals as goal

pub cell_of-passed-requires : goal.cell_of-passed-requires
cell_of-passed-requires c = let low = c.requires.within.0 in omega (arith, low, length-reverse c.args.cells.now)

pub returns : goal.returns
returns c =
    let cells = reverse c.args.cells.now in
    let passed = c.cell_of-passed.result.now in
    passes (reverse c.args.cells.now) c.args.cell passed (reverse c.args.stack.now.items) (reverse c.push_one-2.new.stack.items) c.args.out.now.items c.put_out.new.out.items
    (cell-passed (reverse c.args.cells.now) c.args.cell passed c.requires.linked c.cell_of-passed.ensures) c.requires.within.1
    (c.in_ok-push_one-2.ensures ∙ ap (with_one passed.handed) c.in_ok-push_one.ensures) c.in_ok-put_out.ensures
