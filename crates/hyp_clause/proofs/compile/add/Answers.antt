use Rattle.hyp_clause.proofs.WaitLemmas.{waiting-more}
use Rattle.hyp_clause.proofs.compile.add.Goals as goal

pub returns : goal.returns
returns c = waiting-more c.args.parts.now.items c.push.new.self.items c.args.part c.in_ok-push.ensures.items
