use Rattle.std.proofs.Common.{◌≡◌, ◌∙◌, [], true, MatchOption, ap, sym, subst}
use Rattle.level_terms.proofs.GainLemmas.{gains-refl}
use Rattle.suspend.specs.Keyed.{awake_in, keys_read, Keyed, KeysValid}
use Rattle.suspend.specs.inside.Waking.{AreHeadedBy}
use Rattle.suspend.proofs.EventLemmas.{after-making}
use Rattle.suspend.proofs.WaitLemmas.{valid-at, keyed-looked, keyed-given-up}
use Rattle.suspend.proofs.looking.look_at.Goals as goal

pub returns-then-not-stands-clause-gains : goal.returns-then-not-stands-clause-gains
returns-then-not-stands-clause-gains g c = gains-refl c.args.heap.now

pub heads_of-requires : goal.heads_of-requires
heads_of-requires g c =
    record { valid = subst (KeysValid c.args.heap.now c.get-constraint.result.now.names) (sym c.as_slice.ensures) (valid-at c.args.heap.now c.args.ledger.now c.args.number c.get-constraint.result.now c.requires.keyed c.get-constraint.ensures) }

pub returns-in_err-heads-clause-keyed : goal.returns-in_err-heads-clause-keyed
returns-in_err-heads-clause-keyed g c = after-making _ c.args.heap.now c.heads_of.new.heap [] c.args.ledger.now c.is_sound.ensures c.in_err-heads.ensures.gains.grows c.requires.keyed

pub returns-in_err-settle-in-Some-clause-keyed : goal.returns-in_err-settle-in-Some-clause-keyed
returns-in_err-settle-in-Some-clause-keyed g c =
    let before : Keyed c.args.ledger.now c.heads_of.new.heap = after-making _ c.args.heap.now c.heads_of.new.heap [] c.args.ledger.now c.is_sound.ensures c.in_ok-heads.ensures.gains.grows c.requires.keyed in
    keyed-given-up c.heads_of.new.heap c.args.ledger.now c.settle.new.ledger c.in_err-settle-in-Some.ensures.on c.in_err-settle-in-Some.ensures.kept before

pub returns-in-None-clause-up : goal.returns-in-None-clause-up
returns-in-None-clause-up g c = record {
  constraint = c.get-constraint.result.now;
  at = c.get-constraint.ensures;
  awake = ap (awake_in c.args.heap.now) (sym c.as_slice.ensures)
      ∙ subst (λ o. MatchOption o (awake_in c.args.heap.now c.as_slice.result.now ≡ true) (λ vs. AreHeadedBy (keys_read c.args.heap.now c.as_slice.result.now) vs.items)) c.in-None.is c.in_ok-heads.ensures.heads;
}

pub returns-in-None-clause-keyed : goal.returns-in-None-clause-keyed
returns-in-None-clause-keyed g c = after-making _ c.args.heap.now c.heads_of.new.heap [] c.args.ledger.now c.is_sound.ensures c.in_ok-heads.ensures.gains.grows c.requires.keyed

pub returns-in_ok-settle-in-Some-clause-keyed : goal.returns-in_ok-settle-in-Some-clause-keyed
returns-in_ok-settle-in-Some-clause-keyed g c =
    let heads : AreHeadedBy (keys_read c.args.heap.now c.as_slice.result.now) c.in-Some.variables.items =
    subst (λ o. MatchOption o (awake_in c.args.heap.now c.as_slice.result.now ≡ true) (λ vs. AreHeadedBy (keys_read c.args.heap.now c.as_slice.result.now) vs.items)) c.in-Some.is c.in_ok-heads.ensures.heads in
    let headed : AreHeadedBy (keys_read c.args.heap.now c.get-constraint.result.now.keys) c.as_slice-in-Some.result.now =
    subst (AreHeadedBy (keys_read c.args.heap.now c.get-constraint.result.now.keys)) (sym c.as_slice-in-Some.ensures.value) (subst (λ ks. AreHeadedBy (keys_read c.args.heap.now ks) c.in-Some.variables.items) c.as_slice.ensures heads) in
    let known : Keyed c.settle.new.ledger c.args.heap.now =
    keyed-looked c.args.heap.now c.args.ledger.now c.settle.new.ledger c.args.number c.get-constraint.result.now c.as_slice-in-Some.result.now c.in_ok-settle-in-Some.ensures.on c.get-constraint.ensures headed
    c.in_ok-settle-in-Some.ensures.heads c.in_ok-settle-in-Some.ensures.waiting c.requires.keyed in
    after-making _ c.args.heap.now c.heads_of.new.heap [] c.settle.new.ledger c.is_sound.ensures c.in_ok-heads.ensures.gains.grows known
