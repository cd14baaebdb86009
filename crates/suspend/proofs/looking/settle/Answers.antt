use Rattle.std.proofs.Common.{◌≡◌, ◌≤◌, ◌∷◌, true, false, length, ap, ◌∙◌, subst, sym, arith}
use Rattle.suspend.specs.Store.{sleeps, waiting, has}
use Rattle.suspend.specs.inside.Waking.{LooksOn, AllHead}
use Rattle.suspend.proofs.Results.{on-ok, by-result}
use Rattle.suspend.proofs.WaitLemmas.{looks-heads, looks-later, looks-slept, looks-same, headed-more, headed-slept, down-slept, others-slept}
use Rattle.suspend.proofs.looking.settle.Goals as goal

pub loop-i-preserved : goal.loop-i-preserved
loop-i-preserved g c =
    let e = c.in_ok-head.ensures.ok in
    let one : LooksOn c.loop-i.ledger c.head.new.self = subst (LooksOn c.loop-i.ledger) (sym e) (looks-heads c.loop-i.ledger _ c.args.number) in (
      (let low = c.loop-i-test.true in omega (arith, low)),
      looks-later c.args.ledger.now c.loop-i.ledger c.head.new.self c.loop-i.invariant.1 one,
      ap waiting e ∙ c.loop-i.invariant.2,
      headed-more c.loop-i.ledger c.head.new.self c.args.number c.loop-i.i c.args.variables.now _ c.loop-i-test.true e c.loop-i.invariant.3,
    )

pub returns-clause-heads : goal.returns-clause-heads
returns-clause-heads g c =
    let high : length c.args.variables.now ≤ c.loop-i.i = (let past = c.loop-i-test.false in omega (arith, past)) in
    on-ok c.sleep.result (c.sleep.new.self ≡ sleeps c.args.number ∷ c.loop-i.ledger) (AllHead c.sleep.new.self c.args.number c.args.variables.now)
    (λ e. headed-slept c.loop-i.ledger c.sleep.new.self c.args.number c.loop-i.i c.args.variables.now high c.loop-i.invariant.3 e) c.sleep.ensures.ok

pub returns-clause-down : goal.returns-clause-down
returns-clause-down g c =
    on-ok c.sleep.result (c.sleep.new.self ≡ sleeps c.args.number ∷ c.loop-i.ledger) (has (waiting c.sleep.new.self) c.args.number ≡ false)
    (λ e. down-slept c.loop-i.ledger c.sleep.new.self c.args.number e) c.sleep.ensures.ok

pub returns-clause-waiting : goal.returns-clause-waiting
returns-clause-waiting g c n apart h =
    let before : has (waiting c.loop-i.ledger) n ≡ true = ap (λ ns. has ns n) c.loop-i.invariant.2 ∙ h in
    by-result c.sleep.result (c.sleep.new.self ≡ sleeps c.args.number ∷ c.loop-i.ledger) (c.sleep.new.self ≡ c.loop-i.ledger) (has (waiting c.sleep.new.self) n ≡ true)
    (λ e. others-slept c.loop-i.ledger c.sleep.new.self c.args.number e n apart before) (λ e. ap (λ l. has (waiting l) n) e ∙ before) c.sleep.ensures.ok c.sleep.ensures.err

pub returns-clause-on : goal.returns-clause-on
returns-clause-on g c =
    let one : LooksOn c.loop-i.ledger c.sleep.new.self =
    by-result c.sleep.result (c.sleep.new.self ≡ sleeps c.args.number ∷ c.loop-i.ledger) (c.sleep.new.self ≡ c.loop-i.ledger) (LooksOn c.loop-i.ledger c.sleep.new.self)
    (λ e. looks-slept c.loop-i.ledger c.sleep.new.self c.args.number e) (λ e. looks-same c.loop-i.ledger c.sleep.new.self e) c.sleep.ensures.ok c.sleep.ensures.err in
    looks-later c.args.ledger.now c.loop-i.ledger c.sleep.new.self c.loop-i.invariant.1 one
