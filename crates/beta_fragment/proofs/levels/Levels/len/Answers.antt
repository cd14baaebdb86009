use Rattle.std.proofs.Common.{length, ap, arith}
use Rattle.beta_fragment.proofs.LevelListLemmas.{levels-length}
use Rattle.beta_fragment.proofs.levels.Levels.len.Goals as goal

pub returns : goal.returns
returns c =
    let seen = ap length c.self.view_is in
    let long = levels-length c.self.inside.own c.self.inside.more.items in
    omega (arith, seen, long, c.len.ensures, c.self.inside.more.ok)
