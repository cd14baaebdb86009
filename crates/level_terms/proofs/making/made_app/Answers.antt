use Rattle.std.proofs.Common.{length, ap, arith}
use Rattle.level_terms.proofs.MakeLemmas.{app-made}
use Rattle.level_terms.proofs.making.made_app.Goals as goal

pub returns-clause-app : goal.returns-clause-app
returns-clause-app c = app-made c.args.heap.now c.app.new.self c.args.head c.args.args.now c.in_ok-r.r c.is_sound.ensures c.is_sound-2.ensures c.in_ok-r.ensures.ok.0 c.in_ok-r.ensures.ok.1 c.requires.head c.requires.args

pub returns-clause-there : goal.returns-clause-there
returns-clause-there c =
    let there = c.in_ok-r.ensures.ok.0 in
    let more = ap (λ g. length g.nodes) c.in_ok-r.ensures.ok.1 in
    omega (arith, there, more)
