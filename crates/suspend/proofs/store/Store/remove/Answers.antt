use Rattle.std.proofs.Common.{◌≡◌, ◌∷◌, subst, sym}
use Rattle.suspend.specs.Store.{leaves}
use Rattle.suspend.specs.inside.Waking.{AreQueued}
use Rattle.suspend.proofs.Results.{by-result}
use Rattle.suspend.proofs.WaitLemmas.{queued-left}
use Rattle.suspend.proofs.store.Store.remove.Goals as goal

pub invariant_of-self : goal.invariant_of-self
invariant_of-self g c =
    by-result c.leave.result (c.leave.new.self ≡ leaves c.args.id ∷ c.self.inside.ledger) (c.leave.new.self ≡ c.self.inside.ledger) (AreQueued c.leave.new.self c.self.inside.all c.self.inside.queue)
    (λ e. subst (λ log. AreQueued log c.self.inside.all c.self.inside.queue) (sym e) (queued-left c.self.inside.ledger c.args.id c.self.inside.all c.self.inside.queue c.self.invariant))
    (λ e. subst (λ log. AreQueued log c.self.inside.all c.self.inside.queue) (sym e) c.self.invariant) c.leave.ensures.ok c.leave.ensures.err
