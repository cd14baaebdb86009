use Rattle.std.proofs.Common.{ℕ, sym, subst}
use Rattle.suspend.specs.Keyed.{Keyed}
use Rattle.suspend.proofs.CallerLemmas.{after-leaving}
use Rattle.store_rows.proofs.keeping.leave.Goals as goal

pub returns : goal.returns
returns c = λ g w. subst (λ log. Keyed log g) (sym c.in_ok-remove.ensures.ok) (after-leaving ℕ g c.args.store.now c.args.number w)
