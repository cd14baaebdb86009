use Rattle.std.proofs.Common.{subst}
use Rattle.suspend.specs.Store.{IsLater}
use Rattle.suspend.specs.inside.Waking.{KeepsKeyed}
use Rattle.suspend.proofs.FollowLemmas.{all-wait, doubt-keeps, doubt-later}
use Rattle.suspend.proofs.store.Store.doubt.Goals as goal

pub returns-clause-wait : goal.returns-clause-wait
returns-clause-wait g c = all-wait c.doubt.new.self c.doubt.ensures.0 c.doubt.ensures.1

pub returns-clause-kept : goal.returns-clause-kept
returns-clause-kept g c = subst (λ log. KeepsKeyed log c.doubt.new.self) c.self.view_is (doubt-keeps c.self.inside.ledger c.doubt.new.self c.doubt.ensures.2)

pub returns-clause-later : goal.returns-clause-later
returns-clause-later g c = subst (λ log. IsLater log c.doubt.new.self) c.self.view_is (doubt-later c.self.inside.ledger c.doubt.new.self c.doubt.ensures.2)
