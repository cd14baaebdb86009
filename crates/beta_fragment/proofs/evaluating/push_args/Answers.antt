use Rattle.std.proofs.Common.{◌≡◌, ◌<◌, ◌-◌, ◌++◌, suc, List, reverse, drop, length, sym, ap, ◌∙◌, arith, append-nil}
use Rattle.beta_fragment.specs.declared.evaluating.Task.{Task}
use Rattle.beta_fragment.specs.inside.Evaluation.{arg_tasks}
use Rattle.beta_fragment.proofs.ArgumentLemmas.{pushed-arg, pushed-none}
use Rattle.beta_fragment.proofs.evaluating.push_args.Goals as goal

pub loop-i-init : goal.loop-i-init
loop-i-init c = record {
  within = omega arith;
  pushed = sym (ap (λ (ps : List Task). c.args.work.now.items ++ reverse ps) (pushed-none c.args.args.now (length c.args.args.now) (let q : length c.args.args.now ≡ length c.args.args.now = omega arith in q)) ∙ append-nil c.args.work.now.items);
}

pub loop-i-preserved : goal.loop-i-preserved
loop-i-preserved c = record {
  within = omega (arith, c.loop-i.invariant.within);
  pushed =
      let lt : c.loop-i.i - 1 < length c.args.args.now = omega (arith, c.loop-i.invariant.within, c.loop-i-test.true) in
      let up : c.loop-i.i ≡ suc (c.loop-i.i - 1) = omega (arith, c.loop-i-test.true) in
      pushed-arg c.args.work.now.items c.loop-i.work.items c.push.new.self.items c.push-in-loop-i.new.self.items c.args.args.now (c.loop-i.i - 1) (record { index = 0 }) lt
      (c.loop-i.invariant.pushed ∙ ap (λ n. c.args.work.now.items ++ reverse (arg_tasks (drop n c.args.args.now))) up) c.in_ok-push.ensures.items c.in_ok-push-2.ensures.items;
}
