use Rattle.std.proofs.Common.{◌≡◌, ◌++◌, reverse}
use Rattle.watch_lists.specs.Rows.{numbers_after}
use Rattle.suspend.specs.Store.{rows}
use Rattle.suspend.specs.inside.Waking.{Watches}
use Rattle.suspend.proofs.Results.{on-ok}
use Rattle.suspend.proofs.FollowLemmas.{watches-all}
use Rattle.suspend.proofs.ledger.Ledger.watchers.Goals as goal

pub returns : goal.returns
returns g c =
    on-ok c.numbers.result (c.numbers.new.out.items ≡ c.args.out.now.items ++ numbers_after c.self.inside.watches c.args.variable) (Watches (rows c.args.self.now) c.args.variable c.numbers.new.out.items)
    (λ e. watches-all (reverse c.self.inside.notes.entries) (reverse c.self.inside.constraints.items) (reverse c.self.inside.pairs) c.args.self.now c.self.inside.watches c.args.variable c.args.out.now.items c.numbers.new.out.items c.self.view_is c.self.invariant.watches e)
    c.numbers.ensures
