use Rattle.std.proofs.Common.{refl}
use Rattle.dance_list.proofs.chain.Chain.set_after.Goals as goal

pub returns-in-Some-clause-link : goal.returns-in-Some-clause-link
returns-in-Some-clause-link g c = rw c.in-Some.is (refl, (c.get_mut.result.now, c.get_mut.ensures.value, refl))
