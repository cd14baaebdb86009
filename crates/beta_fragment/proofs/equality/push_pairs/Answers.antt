use Rattle.std.proofs.Common.{◌≡◌, ◌<◌, ◌-◌, ◌++◌, ◌∷◌, suc, List, reverse, drop, length, sym, ap, ◌∙◌, arith, append-nil, get_or}
use Rattle.beta_fragment.specs.declared.equality.Pair.{Pair}
use Rattle.beta_fragment.specs.inside.Pairs.{pairs_of}
use Rattle.beta_fragment.proofs.SpineLemmas.{pairs-all, pairs-one, pairs-step}
use Rattle.beta_fragment.proofs.equality.push_pairs.Goals as goal

pub loop-i-init : goal.loop-i-init
loop-i-init c = record {
  within = omega arith;
  pushed = sym (ap (λ (ps : List Pair). c.args.work.now.items ++ reverse ps) (pairs-all c.args.depth c.args.left.now c.args.right.now) ∙ append-nil c.args.work.now.items);
}

pub loop-i-preserved : goal.loop-i-preserved
loop-i-preserved c =
    let low : c.loop-i.i - 1 < length c.args.left.now = omega (arith, c.loop-i.invariant.within, c.loop-i-test.true) in
    let low' : c.loop-i.i - 1 < length c.args.right.now = omega (arith, low, c.requires) in
    let up : suc (c.loop-i.i - 1) ≡ c.loop-i.i = omega (arith, c.loop-i-test.true) in
    let one = pairs-one c.args.depth c.args.left.now c.args.right.now (c.loop-i.i - 1) (record { index = 0 }) (record { index = 0 }) low low' in
    record {
      within = omega (arith, c.loop-i.invariant.within);
      pushed = pairs-step c.args.work.now.items c.loop-i.work.items c.push.new.self.items (drop c.loop-i.i (pairs_of c.args.depth c.args.left.now c.args.right.now)) (record { left = get_or c.args.left.now (c.loop-i.i - 1) (record { index = 0 }); right = get_or c.args.right.now (c.loop-i.i - 1) (record { index = 0 }); depth = c.args.depth }) (drop (c.loop-i.i - 1) (pairs_of c.args.depth c.args.left.now c.args.right.now))
          c.loop-i.invariant.pushed c.in_ok-push.ensures.items
          (one ∙ ap (λ k. record { left = get_or c.args.left.now (c.loop-i.i - 1) (record { index = 0 }); right = get_or c.args.right.now (c.loop-i.i - 1) (record { index = 0 }); depth = c.args.depth } ∷ drop k (pairs_of c.args.depth c.args.left.now c.args.right.now)) up);
    }
