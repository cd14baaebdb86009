use Rattle.std.proofs.Common.{◌≡◌, ◌≤◌, ◌∙◌, ap, sym, suc, length, arith}
use Rattle.watch_lists.specs.Rows.{oldest}
use Rattle.watch_lists.proofs.CellLemmas.{oldest-less}
use Rattle.watch_lists.proofs.WatchLists.undo.Goals as goal

pub loop-m-preserved : goal.loop-m-preserved
loop-m-preserved c =
    let back = c.take_back.ensures in
    let size : length c.loop-m.self ≡ suc (length c.take_back.new.self) = ap length back.1 in
    let low : c.args.m.changes ≤ length c.take_back.new.self = omega (arith, c.loop-m-test.true, c.mark.ensures, size) in
    (low, sym (oldest-less c.args.m.changes back.0 c.take_back.new.self low) ∙ ap (oldest c.args.m.changes) (sym back.1) ∙ c.loop-m.invariant.1)
