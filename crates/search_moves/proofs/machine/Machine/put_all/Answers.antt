use Rattle.std.proofs.Common.{◌<◌, ◌-◌, length, sym, subst, arith}
use Rattle.beta_fragment.specs.HeadForm.{AllValidAt}
use Rattle.search_moves.proofs.PutLemmas.{valid-from}
use Rattle.search_moves.proofs.machine.Machine.put_all.Goals as goal

pub put-requires-clause-term : goal.put-requires-clause-term
put-requires-clause-term c =
    let g = c.loop-left.self.world.heap in
    let ts = c.args.body.now in
    let d = c.args.goal.now.depth in
    let there : c.loop-left.left - 1 < length ts = omega (arith, c.loop-left.invariant.within, c.loop-left-test.true) in
    valid-from g ts (c.loop-left.left - 1) d (record { index = 0 }) there (subst (λ h. AllValidAt h ts d) (sym c.loop-left.invariant.heap) c.requires.body)
