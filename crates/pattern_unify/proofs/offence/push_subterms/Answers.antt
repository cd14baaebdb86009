use Rattle.std.proofs.Common.{◌≡◌, ◌<◌, ◌-◌, ◌++◌, ◌∷◌, suc, List, reverse, map, drop, length, sym, ap, ◌∙◌, arith, append-nil, get_or}
use Rattle.pattern_unify.specs.declared.offence.Subterm.{Subterm}
use Rattle.pattern_unify.specs.inside.Searching.{subterm}
use Rattle.pattern_unify.proofs.SearchLemmas.{parts-end, parts-one, parts-step}
use Rattle.pattern_unify.proofs.offence.push_subterms.Goals as goal

pub loop-i-init : goal.loop-i-init
loop-i-init c = record {
  within = omega arith;
  pushed = sym (ap (λ (ps : List Subterm). c.args.work.now.items ++ reverse ps) (parts-end c.args.depth c.args.loose c.args.nodes.now) ∙ append-nil c.args.work.now.items);
}

pub loop-i-preserved : goal.loop-i-preserved
loop-i-preserved c =
    let within = c.loop-i.invariant.within in
    let some = c.loop-i-test.true in
    let low : c.loop-i.i - 1 < length c.args.nodes.now = omega (arith, within, some) in
    let up : suc (c.loop-i.i - 1) ≡ c.loop-i.i = omega (arith, some) in
    let t = get_or c.args.nodes.now (c.loop-i.i - 1) (record { index = 0 }) in
    record {
      within = omega (arith, within);
      pushed = parts-step c.args.work.now.items c.loop-i.work.items c.push.new.self.items (drop c.loop-i.i (map (subterm c.args.depth c.args.loose) c.args.nodes.now)) (subterm c.args.depth c.args.loose t) (drop (c.loop-i.i - 1) (map (subterm c.args.depth c.args.loose) c.args.nodes.now))
          c.loop-i.invariant.pushed c.in_ok-push.ensures.items
          (parts-one c.args.depth c.args.loose c.args.nodes.now (c.loop-i.i - 1) (record { index = 0 }) low
          ∙ ap (λ k. subterm c.args.depth c.args.loose t ∷ drop k (map (subterm c.args.depth c.args.loose) c.args.nodes.now)) up);
    }
