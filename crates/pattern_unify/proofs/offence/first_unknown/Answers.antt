use Rattle.std.proofs.Common.{◌≡◌, ◌∙◌, ℕ, suc, ◌+◌, sym, ap, refl, Some, cond, drop, arith}
use Rattle.pattern_unify.specs.inside.Searching.{unknown_from}
use Rattle.pattern_unify.proofs.OffenceSpines.{unknown-step, drop-end}
use Rattle.pattern_unify.proofs.offence.first_unknown.Goals as goal

pub loop-i-init : goal.loop-i-init
loop-i-init c = record { within = omega arith; found = refl }

pub returns-then-not-is_among : goal.returns-then-not-is_among
returns-then-not-is_among c = sym
    (c.loop-i.invariant.found
    ∙ unknown-step c.args.ns.now c.args.base c.args.spine.now c.loop-i.i c.is_among.result c.loop-i-test.true c.is_among.ensures
    ∙ ap (λ b. cond b (unknown_from c.args.ns.now c.args.base (suc c.loop-i.i) (drop (suc c.loop-i.i) c.args.spine.now)) (Some c.loop-i.i)) c.if-not-is_among.true)

pub loop-i-preserved : goal.loop-i-preserved
loop-i-preserved c = record {
  within = (let h = c.loop-i-test.true in omega (arith, h));
  found = c.loop-i.invariant.found
      ∙ unknown-step c.args.ns.now c.args.base c.args.spine.now c.loop-i.i c.is_among.result c.loop-i-test.true c.is_among.ensures
      ∙ ap (λ b. cond b (unknown_from c.args.ns.now c.args.base (suc c.loop-i.i) (drop (suc c.loop-i.i) c.args.spine.now)) (Some c.loop-i.i)) c.if-not-is_among.false
      ∙ ap (λ (k : ℕ). unknown_from c.args.ns.now c.args.base k (drop k c.args.spine.now)) (let e : suc c.loop-i.i ≡ c.loop-i.i + 1 = omega arith in e);
}

pub returns : goal.returns
returns c =
    let within = c.loop-i.invariant.within in
    let past = c.loop-i-test.false in
    sym (c.loop-i.invariant.found ∙ ap (unknown_from c.args.ns.now c.args.base c.loop-i.i) (drop-end c.args.spine.now c.loop-i.i (omega (arith, within, past))))
