use Rattle.std.proofs.Common.{◌≡◌, ℕ, suc, ◌+◌, ◌<◌, ◌≤◌, ◌++◌, min, map, length, drop, refl, subst, arith}
use Rattle.std.proofs.Math.Nat.{min-le_left, min-le_right, le-min}
use Rattle.level_terms.proofs.GainLemmas.{gains-refl, gains-trans}
use Rattle.beta_fragment.specs.HeadForm.{all_read}
use Rattle.ref_terms.specs.unification.Rules.{equations_of}
use Rattle.ref_terms.specs.search.Joint.{over_joint}
use Rattle.sequent_rules.specs.inside.Equations.{equations_in}
use Rattle.sequent_rules.proofs.ArgumentLemmas.{node-valid, arguments-step, arguments-end}
use Rattle.sequent_rules.proofs.equations.add_arguments.Goals as goal

pub loop-i-init : goal.loop-i-init
loop-i-init c = record { gains = gains-refl c.args.heap.now; valid = c.requires.older; left = refl }

pub add_equation-requires-clause-pattern : goal.add_equation-requires-clause-pattern
add_equation-requires-clause-pattern c =
    node-valid c.args.heap.now c.loop-i.heap c.args.lifting.now.depth c.args.patterns.now c.loop-i.i (record { index = 0 }) c.is_sound.ensures c.loop-i.invariant.gains c.requires.patterns
    (let k = min-le_left (length c.args.patterns.now) (length c.args.args.now) in let m : c.loop-i.i < length c.args.patterns.now = omega (arith, k, c.loop-i-test.true, c.min-count.ensures) in m)

pub add_equation-requires-clause-term : goal.add_equation-requires-clause-term
add_equation-requires-clause-term c =
    node-valid c.args.heap.now c.loop-i.heap c.args.lifting.now.own c.args.args.now c.loop-i.i (record { index = 0 }) c.is_sound.ensures c.loop-i.invariant.gains c.requires.args
    (let k = min-le_right (length c.args.patterns.now) (length c.args.args.now) in let m : c.loop-i.i < length c.args.args.now = omega (arith, k, c.loop-i-test.true, c.min-count.ensures) in m)

pub returns-in_err-add_equation-clause-gains : goal.returns-in_err-add_equation-clause-gains
returns-in_err-add_equation-clause-gains c = gains-trans c.args.heap.now c.loop-i.heap c.add_equation.new.heap c.loop-i.invariant.gains c.add_equation.ensures.gains

pub loop-i-preserved : goal.loop-i-preserved
loop-i-preserved c =
    let n = c.args.lifting.now.depth in
    let m = c.args.lifting.now.map.now in
    let whole = equations_in c.args.heap.now n c.args.equations.now.items ++ equations_of n (all_read c.args.heap.now c.args.patterns.now) (map (over_joint m) (all_read c.args.heap.now c.args.args.now)) in
    let after = equations_in c.add_equation.new.heap n c.add_equation.new.equations.items in
    let next : suc c.loop-i.i ≡ c.loop-i.i + 1 = omega arith in
    record {
      gains = gains-trans c.args.heap.now c.loop-i.heap c.add_equation.new.heap c.loop-i.invariant.gains c.add_equation.ensures.gains;
      valid = c.in_ok-add_equation.ensures.valid;
      left = subst (λ (k : ℕ). after ++ equations_of n (drop k (all_read c.args.heap.now c.args.patterns.now)) (drop k (map (over_joint m) (all_read c.args.heap.now c.args.args.now))) ≡ whole) next
          (arguments-step c.args.heap.now n c.args.lifting.now.own m c.args.patterns.now c.args.args.now c.loop-i.i (equations_in c.loop-i.heap n c.loop-i.equations.items) whole c.loop-i.invariant.left c.loop-i.heap (record { index = 0 }) (record { index = 0 }) after
          c.is_sound.ensures c.loop-i.invariant.gains c.requires.patterns c.requires.args
          (let k = min-le_left (length c.args.patterns.now) (length c.args.args.now) in let m : c.loop-i.i < length c.args.patterns.now = omega (arith, k, c.loop-i-test.true, c.min-count.ensures) in m)
          (let k = min-le_right (length c.args.patterns.now) (length c.args.args.now) in let m : c.loop-i.i < length c.args.args.now = omega (arith, k, c.loop-i-test.true, c.min-count.ensures) in m)
          c.in_ok-add_equation.ensures.reads);
    }

pub returns-clause-reads : goal.returns-clause-reads
returns-clause-reads c =
    let n = c.args.lifting.now.depth in
    let m = c.args.lifting.now.map.now in
    let whole = equations_in c.args.heap.now n c.args.equations.now.items ++ equations_of n (all_read c.args.heap.now c.args.patterns.now) (map (over_joint m) (all_read c.args.heap.now c.args.args.now)) in
    arguments-end c.args.heap.now n c.args.lifting.now.own m c.args.patterns.now c.args.args.now c.loop-i.i (equations_in c.loop-i.heap n c.loop-i.equations.items) whole c.loop-i.invariant.left
    (λ p q. let k : suc c.loop-i.i ≤ min (length c.args.patterns.now) (length c.args.args.now) = le-min (omega (arith, p)) (omega (arith, q)) in absurd (omega (arith, k, c.loop-i-test.false, c.min-count.ensures)))
