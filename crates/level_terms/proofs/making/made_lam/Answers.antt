use Rattle.std.proofs.Common.{length, ap, arith}
use Rattle.level_terms.proofs.MakeLemmas.{lam-made}
use Rattle.level_terms.proofs.making.made_lam.Goals as goal

pub returns-clause-lam : goal.returns-clause-lam
returns-clause-lam c = lam-made c.args.heap.now c.lam.new.self c.args.depth c.args.body c.in_ok-r.r c.is_sound.ensures c.is_sound-2.ensures c.in_ok-r.ensures.ok.0 c.in_ok-r.ensures.ok.1 c.requires

pub returns-clause-there : goal.returns-clause-there
returns-clause-there c =
    let there = c.in_ok-r.ensures.ok.0 in
    let more = ap (λ g. length g.nodes) c.in_ok-r.ensures.ok.1 in
    omega (arith, there, more)
