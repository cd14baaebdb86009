use Rattle.std.proofs.Common.{◌≤◌, length, refl, arith}
use Rattle.suspend.proofs.LogLemmas.{later-itself, later-later}
use Rattle.suspend.proofs.FollowLemmas.{some-begun, some-more, some-all, same-itself, same-later}
use Rattle.suspend.proofs.store.Store.follow.Goals as goal

pub loop-i-init : goal.loop-i-init
loop-i-init g c = (omega arith, some-begun c.args.self.now c.args.heap.now c.args.entries.now, same-itself c.args.self.now, later-itself c.args.self.now)

pub loop-i-preserved : goal.loop-i-preserved
loop-i-preserved g c = (
  omega (arith, c.loop-i-test.true),
  some-more c.args.self.now c.loop-i.self c.follow_one.new.self c.args.heap.now c.args.entries.now c.loop-i.i _ (record { variable = record { index = 0 } }) c.loop-i.invariant.1 c.follow_one.ensures.keyed refl,
  same-later c.args.self.now c.loop-i.self c.follow_one.new.self c.loop-i.invariant.2 c.follow_one.ensures.same,
  later-later c.args.self.now c.loop-i.self c.follow_one.new.self c.loop-i.invariant.3 c.follow_one.ensures.later,
)

pub returns-clause-keyed : goal.returns-clause-keyed
returns-clause-keyed g c =
    let high : length c.args.entries.now ≤ c.loop-i.i = omega (arith, c.loop-i-test.false) in
    some-all c.args.self.now c.loop-i.self c.args.heap.now c.args.entries.now c.loop-i.i high c.loop-i.invariant.0 c.loop-i.invariant.1
