use Rattle.std.proofs.Common.{length, ap, arith}
use Rattle.beta_fragment.proofs.LevelListLemmas.{levels-length}
use Rattle.beta_fragment.proofs.levels.Levels.push.Goals as goal

pub invariant_of-self-2 : goal.invariant_of-self-2
invariant_of-self-2 c =
    let seen = ap length c.self.view_is in
    let long = levels-length c.self.inside.own c.self.inside.more.items in
    omega (arith, seen, long, c.self.inside.more.ok, c.self.invariant, c.len.ensures, c.len.type_inv, c.if-len.false, c.in_ok-push.ensures.len)
