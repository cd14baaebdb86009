use Rattle.level_terms.proofs.MakeLemmas.{level-made}
use Rattle.level_terms.proofs.making.made_level.Goals as goal

pub returns-clause-level : goal.returns-clause-level
returns-clause-level c = level-made c.args.heap.now c.level.new.self c.args.level c.in_ok-r.r c.is_sound.ensures c.in_ok-r.ensures.ok.0 c.in_ok-r.ensures.ok.1
