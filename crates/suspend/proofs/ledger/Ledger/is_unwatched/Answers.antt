use Rattle.std.proofs.Common.{◌≡◌, ℕ, false, subst, reverse}
use Rattle.suspend.specs.Store.{rows, has_row}
use Rattle.suspend.proofs.FollowLemmas.{unwatched-none}
use Rattle.suspend.proofs.ledger.Ledger.is_unwatched.Goals as goal

pub returns : goal.returns
returns g c e =
    subst (λ log. (n : ℕ) → has_row (rows log) c.args.variable n ≡ false) c.self.view_is
    (unwatched-none (reverse c.self.inside.notes.entries) (reverse c.self.inside.constraints.items) (reverse c.self.inside.pairs) c.self.inside.watches c.args.variable c.self.invariant.watches (c.is_empty.ensures e))
