use Rattle.std.proofs.Common.{◌<◌, ◌≤◌, ◌∷◌, ◌∙◌, length, ap, subst, arith}
use Rattle.suspend.specs.Store.{rows, waits}
use Rattle.suspend.specs.inside.Waking.{Watches}
use Rattle.suspend.proofs.FollowLemmas.{stirs-later, stirs-waited, waits-more, stirred-all}
use Rattle.suspend.proofs.store.Store.stir.Goals as goal

pub loop-i-preserved : goal.loop-i-preserved
loop-i-preserved g c =
    let low : c.loop-i.i < length c.watchers.new.out.items = omega (arith, c.loop-i-test.true, c.len.ensures) in
    let e = c.in_ok-wait.ensures.ok in (
      omega (arith, low),
      stirs-later c.args.self.now c.loop-i.self c.wait.new.self c.loop-i.invariant.1 (stirs-waited c.loop-i.self c.wait.new.self c.index.result.now e),
      waits-more c.loop-i.self c.wait.new.self c.watchers.new.out.items c.loop-i.i c.index.result.now low (e ∙ ap (λ n. waits n ∷ c.loop-i.self) c.index.ensures) c.loop-i.invariant.2,
    )

pub returns-clause-stirred : goal.returns-clause-stirred
returns-clause-stirred g c =
    let high : length c.watchers.new.out.items ≤ c.loop-i.i = omega (arith, c.loop-i-test.false, c.len.ensures) in
    stirred-all c.args.self.now c.loop-i.self c.args.variable c.loop-i.i c.watchers.new.out.items (subst (λ log. Watches (rows log) c.args.variable c.watchers.new.out.items) c.self.view_is c.in_ok-watchers.ensures)
    c.loop-i.invariant.1.rows_stay high c.loop-i.invariant.2
