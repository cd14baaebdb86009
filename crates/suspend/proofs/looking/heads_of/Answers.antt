use Rattle.std.proofs.Common.{ℕ, Some, map, slice_index_or, ap, sym, subst}
use Rattle.level_terms.specs.Reading.{read}
use Rattle.level_terms.proofs.GainLemmas.{gains-refl, gains-trans}
use Rattle.beta_fragment.specs.Names.{names}
use Rattle.suspend.specs.inside.Waking.{ShowsHead}
use Rattle.suspend.proofs.AwakeLemmas.{key-gained, heads-none, heads-more}
use Rattle.suspend.proofs.looking.heads_of.Goals as goal

pub loop-key-init : goal.loop-key-init
loop-key-init c = (gains-refl c.args.heap.now, ap (λ vs. map (λ (v : ℕ). Some v) vs) (sym c.new-variables.ensures.items))

pub head_of-requires : goal.head_of-requires
head_of-requires c =
    record { valid = key-gained c.args.heap.now c.loop-key.heap c.args.depth c.args.keys.now c.loop-key.key-index (record { index = 0 }) c.is_sound.ensures c.loop-key.invariant.0 c.loop-key-test.true c.requires.valid }

pub returns-in_err-head-clause-gains : goal.returns-in_err-head-clause-gains
returns-in_err-head-clause-gains c = gains-trans c.args.heap.now c.loop-key.heap c.head_of.new.heap c.loop-key.invariant.0 c.in_err-head.ensures.gains

pub returns-in-None-clause-heads : goal.returns-in-None-clause-heads
returns-in-None-clause-heads c =
    heads-none c.args.heap.now c.loop-key.heap c.args.depth c.args.keys.now c.loop-key.key-index (record { index = 0 }) c.is_sound.ensures c.loop-key.invariant.0 c.loop-key-test.true c.requires.valid
    (subst (ShowsHead (read c.loop-key.heap (slice_index_or c.args.keys.now c.loop-key.key-index (record { index = 0 })).index names)) c.in-None.is c.in_ok-head.ensures.head)

pub returns-in-None-clause-gains : goal.returns-in-None-clause-gains
returns-in-None-clause-gains c = gains-trans c.args.heap.now c.loop-key.heap c.head_of.new.heap c.loop-key.invariant.0 c.in_ok-head.ensures.gains

pub returns-in_err-push-in-Some-clause-gains : goal.returns-in_err-push-in-Some-clause-gains
returns-in_err-push-in-Some-clause-gains c = gains-trans c.args.heap.now c.loop-key.heap c.head_of.new.heap c.loop-key.invariant.0 c.in_ok-head.ensures.gains

pub loop-key-preserved : goal.loop-key-preserved
loop-key-preserved c = (
  gains-trans c.args.heap.now c.loop-key.heap c.head_of.new.heap c.loop-key.invariant.0 c.in_ok-head.ensures.gains,
  heads-more c.args.heap.now c.loop-key.heap c.args.depth c.args.keys.now c.loop-key.key-index (record { index = 0 }) c.loop-key.variables.items c.push.new.self.items c.in-Some.variable
      c.is_sound.ensures c.loop-key.invariant.0 c.loop-key-test.true c.requires.valid
      (subst (ShowsHead (read c.loop-key.heap (slice_index_or c.args.keys.now c.loop-key.key-index (record { index = 0 })).index names)) c.in-Some.is c.in_ok-head.ensures.head)
      c.in_ok-push-in-Some.ensures.items c.loop-key.invariant.1,
)
