use Rattle.std.proofs.Common.{◌≡◌, ◌<◌, ◌-◌, ◌++◌, ◌∷◌, suc, reverse, drop, length, sym, ap, ◌∙◌, arith, append-nil, get_or}
use Rattle.pattern_unify.specs.declared.filling.Task.TheVariants.{Visit}
use Rattle.pattern_unify.specs.inside.Filling.{visits}
use Rattle.pattern_unify.proofs.FillingWork.{drop_all, drop_one, push_step}
use Rattle.pattern_unify.proofs.filling.push_visits.Goals as goal

pub loop-i-init : goal.loop-i-init
loop-i-init c = record {
  within = omega arith;
  pushed = sym (ap (λ ps. c.args.work.now.items ++ reverse ps) (drop_all c.args.nodes.now) ∙ append-nil c.args.work.now.items);
}

pub loop-i-preserved : goal.loop-i-preserved
loop-i-preserved c = record {
  within = omega (arith, c.loop-i.invariant.within);
  pushed =
      let lt : c.loop-i.i - 1 < length c.args.nodes.now = omega (arith, c.loop-i.invariant.within, c.loop-i-test.true) in
      let up : suc (c.loop-i.i - 1) ≡ c.loop-i.i = omega (arith, c.loop-i-test.true) in
      let one = drop_one c.args.nodes.now (c.loop-i.i - 1) (record { index = 0 }) lt in
      push_step c.args.work.now.items c.loop-i.work.items c.push.new.self.items (drop c.loop-i.i (visits c.args.nodes.now)) (Visit (get_or c.args.nodes.now (c.loop-i.i - 1) (record { index = 0 }))) (drop (c.loop-i.i - 1) (visits c.args.nodes.now))
      c.loop-i.invariant.pushed c.in_ok-push.ensures.items
      (one ∙ ap (λ k. Visit (get_or c.args.nodes.now (c.loop-i.i - 1) (record { index = 0 })) ∷ drop k (visits c.args.nodes.now)) up);
}
