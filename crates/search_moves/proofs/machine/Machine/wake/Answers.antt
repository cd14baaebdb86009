use Rattle.std.proofs.Common.{◌≡◌, [], List, length, sym, ap, subst, arith}
use Rattle.search_moves.specs.declared.frame.Frame.{Frame}
use Rattle.search_moves.specs.Waking.{WakesOne, SleepsOn}
use Rattle.search_moves.proofs.GrowLemmas.{match-some, match-none}
use Rattle.search_moves.proofs.WakeMoves.{IsCollecting, no-goals, waking-starts, waking-goes, waking-smaller, woke-none, woke-some}
use Rattle.search_moves.proofs.machine.Machine.wake.Goals as goal

pub loop-goals-init : goal.loop-goals-init
loop-goals-init c = waking-starts c.alternatives-barrier.result c.args.self.now c.no_goals-goals.result.items c.no_goals-goals.ensures

pub loop-goals-preserved : goal.loop-goals-preserved
loop-goals-preserved c =
    let b = c.alternatives-barrier.result in
    let m = c.loop-goals.self in
    let new = c.next_woken.new.self in
    let fs = c.loop-goals.goals.items in
    let inv = c.loop-goals.invariant in
    let one = match-some c.in_ok-goal.field-0 (SleepsOn m new) (WakesOne b m new) c.in-Some.goal c.in-Some.is c.in_ok-goal.ensures.woken in
    subst (λ (xs : List Frame). IsCollecting b c.args.self.now new xs) (sym c.in_ok-push.ensures.items)
    (waking-goes b c.args.self.now m new fs c.in-Some.goal inv one (c.next_woken.ensures.goals fs inv.waking.valid) c.next_woken.ensures.saved c.next_woken.ensures.phase c.next_woken.ensures.code c.next_woken.ensures.alternatives)

pub loop-goals-smaller : goal.loop-goals-smaller
loop-goals-smaller c =
    let b = c.alternatives-barrier.result in
    let m = c.loop-goals.self in
    let new = c.next_woken.new.self in
    let one = match-some c.in_ok-goal.field-0 (SleepsOn m new) (WakesOne b m new) c.in-Some.goal c.in-Some.is c.in_ok-goal.ensures.woken in
    let less = waking-smaller b m new c.in-Some.goal one in
    omega (arith, less)

pub returns-then-is_empty-clause-woken : goal.returns-then-is_empty-clause-woken
returns-then-is_empty-clause-woken c =
    let b = c.alternatives-barrier.result in
    let m = c.loop-goals.self in
    let new = c.next_woken.new.self in
    let fs = c.loop-goals.goals.items in
    let inv = c.loop-goals.invariant in
    let none = match-none c.in_ok-goal.field-0 (SleepsOn m new) (WakesOne b m new) c.in_default.is c.in_ok-goal.ensures.woken in
    let ok = c.loop-goals.goals.ok in
    let told = c.if-is_empty.ensures in
    woke-none b c.args.self.now m new fs inv none (c.next_woken.ensures.goals fs inv.waking.valid) (no-goals fs (grind (arith, ok, told, c.if-is_empty.true)))

pub returns-clause-woken : goal.returns-clause-woken
returns-clause-woken c =
    let b = c.alternatives-barrier.result in
    let m = c.loop-goals.self in
    let new = c.next_woken.new.self in
    let fs = c.loop-goals.goals.items in
    let inv = c.loop-goals.invariant in
    let none = match-none c.in_ok-goal.field-0 (SleepsOn m new) (WakesOne b m new) c.in_default.is c.in_ok-goal.ensures.woken in
    let ok = c.loop-goals.goals.ok in
    let told = c.if-is_empty.ensures in
    let some : fs ≡ [] → ⊥ = λ e. (let n : length fs ≡ 0 = ap length e in grind (arith, ok, told, c.if-is_empty.false, n)) in
    woke-some b c.args.self.now m new fs inv none (c.next_woken.ensures.goals fs inv.waking.valid) c.put_before.new.self some c.alternatives-barrier.ensures c.in_ok-put_before.ensures.branch
