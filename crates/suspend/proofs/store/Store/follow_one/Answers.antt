use Rattle.suspend.proofs.LogLemmas.{later-later}
use Rattle.suspend.proofs.store.Store.follow_one.Goals as goal

pub returns-in-Err-clause-later : goal.returns-in-Err-clause-later
returns-in-Err-clause-later g c = later-later c.args.self.now c.try_follow.new.self c.doubt.new.self c.in-Err.ensures.later c.doubt.ensures.later
