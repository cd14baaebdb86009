use Rattle.std.proofs.Common.{◌∙◌, false, MatchBool, ap, sym, subst}
use Rattle.level_terms.proofs.GainLemmas.{gains-refl, gains-trans}
use Rattle.suspend.specs.Store.{stored, rows}
use Rattle.suspend.specs.Keyed.{first_awake}
use Rattle.suspend.specs.inside.Waking.{IsUp, IsDown}
use Rattle.suspend.proofs.AwakeLemmas.{all-valid}
use Rattle.suspend.proofs.WaitLemmas.{looks-itself, looks-later, looks-rested, queued-looked, queued-down, first-gained, first-least, none-waits, all-quiet, none-first, keyed-rested}
use Rattle.suspend.proofs.looking.first_up.Goals as goal

pub loop-number-init : goal.loop-number-init
loop-number-init g c = (c.requires.queued, c.requires.keyed, looks-itself c.args.ledger.now, gains-refl c.args.heap.now)

pub returns-in_err-up-clause-on : goal.returns-in_err-up-clause-on
returns-in_err-up-clause-on g c = looks-later c.args.ledger.now c.loop-number.ledger c.look_at.new.ledger c.loop-number.invariant.2 c.in_err-up.ensures.on

pub returns-in_err-up-clause-gains : goal.returns-in_err-up-clause-gains
returns-in_err-up-clause-gains g c = gains-trans c.args.heap.now c.loop-number.heap c.look_at.new.heap c.loop-number.invariant.3 c.in_err-up.ensures.gains

pub returns-then-up-clause-first : goal.returns-then-up-clause-first
returns-then-up-clause-first g c =
    let up : IsUp c.loop-number.heap c.loop-number.ledger c.in-Some.number =
    subst (λ b. MatchBool b (IsUp c.loop-number.heap c.loop-number.ledger c.in-Some.number) (IsDown c.look_at.new.ledger c.in-Some.number)) c.if-up.true c.in_ok-up.ensures.up in
    sym (first-least c.loop-number.heap c.loop-number.ledger c.loop-number.queue c.in-Some.number c.loop-number.invariant.0 c.in-Some.ensures.some up c.loop-number.invariant.1)
    ∙ ap (first_awake c.loop-number.heap) c.loop-number.invariant.2.same.constraints
    ∙ first-gained c.args.heap.now c.loop-number.heap c.is_sound.ensures c.loop-number.invariant.3 (stored c.args.ledger.now) (all-valid c.args.heap.now c.args.ledger.now c.requires.keyed)

pub returns-then-up-clause-on : goal.returns-then-up-clause-on
returns-then-up-clause-on g c = looks-later c.args.ledger.now c.loop-number.ledger c.look_at.new.ledger c.loop-number.invariant.2 c.in_ok-up.ensures.on

pub returns-then-up-clause-gains : goal.returns-then-up-clause-gains
returns-then-up-clause-gains g c = gains-trans c.args.heap.now c.loop-number.heap c.look_at.new.heap c.loop-number.invariant.3 c.in_ok-up.ensures.gains

pub loop-number-preserved : goal.loop-number-preserved
loop-number-preserved g c =
    let down : IsDown c.look_at.new.ledger c.in-Some.number =
    subst (λ b. MatchBool b (IsUp c.loop-number.heap c.loop-number.ledger c.in-Some.number) (IsDown c.look_at.new.ledger c.in-Some.number)) c.if-up.false c.in_ok-up.ensures.up in (
      queued-down c.look_at.new.ledger false c.loop-number.queue c.leave.new.self c.in-Some.number down c.leave.ensures
          (queued-looked c.loop-number.ledger c.look_at.new.ledger false c.loop-number.queue c.in_ok-up.ensures.on c.loop-number.invariant.0),
      c.in_ok-up.ensures.keyed,
      looks-later c.args.ledger.now c.loop-number.ledger c.look_at.new.ledger c.loop-number.invariant.2 c.in_ok-up.ensures.on,
      gains-trans c.args.heap.now c.loop-number.heap c.look_at.new.heap c.loop-number.invariant.3 c.in_ok-up.ensures.gains,
    )

pub returns-clause-first : goal.returns-clause-first
returns-clause-first g c =
    sym (none-first c.loop-number.heap (stored c.loop-number.ledger) (rows c.loop-number.ledger)
    (all-quiet c.loop-number.heap c.loop-number.ledger (none-waits c.loop-number.ledger c.loop-number.queue c.in_default.ensures.none c.loop-number.invariant.0) c.loop-number.invariant.1))
    ∙ ap (first_awake c.loop-number.heap) c.loop-number.invariant.2.same.constraints
    ∙ first-gained c.args.heap.now c.loop-number.heap c.is_sound.ensures c.loop-number.invariant.3 (stored c.args.ledger.now) (all-valid c.args.heap.now c.args.ledger.now c.requires.keyed)

pub returns-clause-keyed : goal.returns-clause-keyed
returns-clause-keyed g c =
    keyed-rested c.loop-number.heap c.loop-number.ledger c.rest.new.self c.in_ok-rest.ensures.ok
    (none-waits c.loop-number.ledger c.loop-number.queue c.in_default.ensures.none c.loop-number.invariant.0) c.loop-number.invariant.1

pub returns-clause-on : goal.returns-clause-on
returns-clause-on g c = looks-later c.args.ledger.now c.loop-number.ledger c.rest.new.self c.loop-number.invariant.2 (looks-rested c.loop-number.ledger c.rest.new.self c.in_ok-rest.ensures.ok)
