use Rattle.std.proofs.Common.{◌≡◌, ◌<◌, ◌-◌, ◌++◌, ◌∷◌, suc, List, reverse, drop, length, sym, ap, ◌∙◌, arith, append-nil, get_or}
use Rattle.pattern_unify.specs.declared.equation.Equation.{Equation}
use Rattle.pattern_unify.specs.inside.Equations.{arguments_of}
use Rattle.pattern_unify.proofs.EquationLemmas.{arguments-all, arguments-one, arguments-step}
use Rattle.pattern_unify.proofs.rigid.push_arguments.Goals as goal

pub loop-i-init : goal.loop-i-init
loop-i-init c = record {
  within = omega arith;
  pushed = sym (ap (λ (es : List Equation). c.args.work.now.items ++ reverse es) (arguments-all c.args.depth c.args.xs.now c.args.ys.now) ∙ append-nil c.args.work.now.items);
}

pub loop-i-preserved : goal.loop-i-preserved
loop-i-preserved c =
    let low : c.loop-i.i - 1 < length c.args.xs.now = omega (arith, c.loop-i.invariant.within, c.loop-i-test.true) in
    let low' : c.loop-i.i - 1 < length c.args.ys.now = omega (arith, low, c.requires) in
    let up : suc (c.loop-i.i - 1) ≡ c.loop-i.i = omega (arith, c.loop-i-test.true) in
    let one = arguments-one c.args.depth c.args.xs.now c.args.ys.now (c.loop-i.i - 1) (record { index = 0 }) (record { index = 0 }) low low' in
    record {
      within = omega (arith, c.loop-i.invariant.within);
      pushed = arguments-step c.args.work.now.items c.loop-i.work.items c.push.new.self.items (drop c.loop-i.i (arguments_of c.args.depth c.args.xs.now c.args.ys.now)) (record { left = get_or c.args.xs.now (c.loop-i.i - 1) (record { index = 0 }); right = get_or c.args.ys.now (c.loop-i.i - 1) (record { index = 0 }); depth = c.args.depth }) (drop (c.loop-i.i - 1) (arguments_of c.args.depth c.args.xs.now c.args.ys.now))
          c.loop-i.invariant.pushed c.in_ok-push.ensures.items
          (one ∙ ap (λ k. record { left = get_or c.args.xs.now (c.loop-i.i - 1) (record { index = 0 }); right = get_or c.args.ys.now (c.loop-i.i - 1) (record { index = 0 }); depth = c.args.depth } ∷ drop k (arguments_of c.args.depth c.args.xs.now c.args.ys.now)) up);
    }
