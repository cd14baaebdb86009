use Rattle.std.proofs.Common.{◌≡◌, ◌≤◌, ◌∙◌, ap, sym, suc, length, arith}
use Rattle.suspend.specs.Store.{oldest}
use Rattle.suspend.proofs.StoreLemmas.{oldest-less}
use Rattle.suspend.proofs.ledger.Ledger.undo.Goals as goal

pub loop-self-preserved : goal.loop-self-preserved
loop-self-preserved g c =
    let back = c.take_back.ensures in
    let size : length c.loop-self.self ≡ suc (length c.take_back.new.self) = ap length back.1 in
    let low : c.args.events ≤ length c.take_back.new.self = omega (arith, c.loop-self-test.true, c.len.ensures, size) in
    (low, sym (oldest-less c.args.events back.0 c.take_back.new.self low) ∙ ap (oldest c.args.events) (sym back.1) ∙ c.loop-self.invariant.1)
