use Rattle.std.proofs.Common.{◌≡◌, ◌∙◌, ◌&&◌, ℕ, suc, ◌+◌, Bool, drop, refl, sym, subst, ap, arith}
use Rattle.std.specs.List.{list_all}
use Rattle.level_terms.proofs.GainLemmas.{gains-refl, gains-trans}
use Rattle.beta_fragment.specs.HeadForm.{all_read}
use Rattle.ref_terms.specs.search.RuleTest.{holds}
use Rattle.sequent_rules.proofs.ArgumentLemmas.{node-valid}
use Rattle.sequent_rules.proofs.HoldLemmas.{tests-step, tests-end}
use Rattle.sequent_rules.proofs.testing.all_hold.Goals as goal

pub loop-i-init : goal.loop-i-init
loop-i-init c = record { gains = gains-refl c.args.heap.now; left = refl }

pub test_of-requires : goal.test_of-requires
test_of-requires c = node-valid c.args.heap.now c.loop-i.heap c.args.depth c.args.tests.now c.loop-i.i (record { index = 0 }) c.is_sound.ensures c.loop-i.invariant.gains c.requires c.loop-i-test.true

pub returns-in_err-does-clause-gains : goal.returns-in_err-does-clause-gains
returns-in_err-does-clause-gains c = gains-trans c.args.heap.now c.loop-i.heap c.test_of.new.heap c.loop-i.invariant.gains c.test_of.ensures.gains

pub returns-then-not-does-clause-hold : goal.returns-then-not-does-clause-hold
returns-then-not-does-clause-hold c =
    sym (tests-step c.args.heap.now c.loop-i.heap c.args.depth c.args.tests.now c.loop-i.i (record { index = 0 }) c.in_ok-does.does c.is_sound.ensures c.loop-i.invariant.gains c.requires c.loop-i-test.true c.loop-i.invariant.left c.in_ok-does.ensures.holds
    ∙ ap (λ (b : Bool). b && list_all holds (drop (suc c.loop-i.i) (all_read c.args.heap.now c.args.tests.now))) c.if-not-does.true)

pub returns-then-not-does-clause-gains : goal.returns-then-not-does-clause-gains
returns-then-not-does-clause-gains c = gains-trans c.args.heap.now c.loop-i.heap c.test_of.new.heap c.loop-i.invariant.gains c.test_of.ensures.gains

pub loop-i-preserved : goal.loop-i-preserved
loop-i-preserved c =
    let next : suc c.loop-i.i ≡ c.loop-i.i + 1 = omega arith in
    record {
      gains = gains-trans c.args.heap.now c.loop-i.heap c.test_of.new.heap c.loop-i.invariant.gains c.test_of.ensures.gains;
      left = subst (λ (k : ℕ). list_all holds (all_read c.args.heap.now c.args.tests.now) ≡ list_all holds (drop k (all_read c.args.heap.now c.args.tests.now))) next
          (tests-step c.args.heap.now c.loop-i.heap c.args.depth c.args.tests.now c.loop-i.i (record { index = 0 }) c.in_ok-does.does c.is_sound.ensures c.loop-i.invariant.gains c.requires c.loop-i-test.true c.loop-i.invariant.left c.in_ok-does.ensures.holds
          ∙ ap (λ (b : Bool). b && list_all holds (drop (suc c.loop-i.i) (all_read c.args.heap.now c.args.tests.now))) c.if-not-does.false);
    }

pub returns-clause-hold : goal.returns-clause-hold
returns-clause-hold c = sym (tests-end c.args.heap.now c.args.tests.now c.loop-i.i (omega arith) c.loop-i.invariant.left)
