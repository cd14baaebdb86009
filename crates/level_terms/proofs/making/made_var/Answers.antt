use Rattle.level_terms.proofs.MakeLemmas.{var-made}
use Rattle.level_terms.proofs.making.made_var.Goals as goal

pub returns-clause-open : goal.returns-clause-open
returns-clause-open c = var-made c.args.heap.now c.var.new.self c.args.v c.in_ok-r.r c.is_sound.ensures c.in_ok-r.ensures.ok.0 c.in_ok-r.ensures.ok.1 c.requires.free
