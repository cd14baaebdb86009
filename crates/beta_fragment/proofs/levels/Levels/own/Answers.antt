use Rattle.std.proofs.Common.{length, ap, sym, arith}
use Rattle.beta_fragment.proofs.LevelListLemmas.{levels-length, own-name}
use Rattle.beta_fragment.proofs.levels.Levels.own.Goals as goal

pub returns-clause-count : goal.returns-clause-count
returns-clause-count c =
    let long = levels-length c.args.depth c.new.result.items in
    let none = ap length c.new.ensures.items in
    omega (arith, long, none)

pub returns-clause-own : goal.returns-clause-own
returns-clause-own c = λ i k. sym (own-name c.args.depth c.new.result.items i k)
