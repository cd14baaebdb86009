use Rattle.std.proofs.Common.{◌≡◌, ◌∙◌, ◌+◌, ℕ, suc, Some, None, cond, Bool, length, drop, get_or, option_and_then, sym, subst, ap, arith}
use Rattle.ref_terms.specs.search.Joint.{identified, paired}
use Rattle.eigen_align.proofs.IdentifiedLemmas.{unequal, identified-step, identified-fails, identified-end}
use Rattle.eigen_align.proofs.identifying.identify.Goals as goal

pub returns-then-not-same-clause-identified : goal.returns-then-not-same-clause-identified
returns-then-not-same-clause-identified c =
    sym (ap (option_and_then (λ ps. identified c.args.map.now ps (Some c.args.names.now.items))) (unequal c.args.left.now c.args.right.now c.if-not-same.true))

pub give-given-requires : goal.give-given-requires
give-given-requires c =
    let even : length c.args.left.now ≡ length c.args.right.now = c.if-not-same.false in
    let low = c.requires.right c.loop-i.i (omega (arith, even)) in
    let count = c.loop-i.invariant.count in
    omega (arith, low, count)

pub loop-i-preserved : goal.loop-i-preserved
loop-i-preserved c =
    let even : length c.args.left.now ≡ length c.args.right.now = c.if-not-same.false in
    record {
      identified = subst (λ (j : ℕ). option_and_then (λ ps. identified c.args.map.now ps (Some c.give-given.new.names.items)) (paired (drop j c.args.left.now) (drop j c.args.right.now)) ≡ option_and_then (λ ps. identified c.args.map.now ps (Some c.args.names.now.items)) (paired c.args.left.now c.args.right.now))
          (let up : suc c.loop-i.i ≡ c.loop-i.i + 1 = omega arith in up) (sym (identified-step c.args.map.now c.args.left.now c.args.right.now c.loop-i.i c.loop-i.names.items (Some c.give-given.new.names.items) (omega arith) (omega (arith, even))
          (sym (ap (λ (b : Bool). cond b (Some c.give-given.new.names.items) None) c.if-not-given.false) ∙ c.give-given.ensures.given)) ∙ c.loop-i.invariant.identified);
      count = c.give-given.ensures.count ∙ c.loop-i.invariant.count;
      below = λ d b w. c.give-given.ensures.below d (b (get_or c.args.left.now c.loop-i.i 0) (c.requires.left c.loop-i.i (omega arith))) (c.loop-i.invariant.below d b w);
    }

pub returns-then-not-given-clause-identified : goal.returns-then-not-given-clause-identified
returns-then-not-given-clause-identified c =
    let even : length c.args.left.now ≡ length c.args.right.now = c.if-not-same.false in
    sym (identified-step c.args.map.now c.args.left.now c.args.right.now c.loop-i.i c.loop-i.names.items None (omega arith) (omega (arith, even))
    (sym (ap (λ (b : Bool). cond b (Some c.give-given.new.names.items) None) c.if-not-given.true) ∙ c.give-given.ensures.given)
    ∙ identified-fails c.args.map.now (paired (drop (suc c.loop-i.i) c.args.left.now) (drop (suc c.loop-i.i) c.args.right.now))) ∙ c.loop-i.invariant.identified

pub returns-then-not-given-clause-below : goal.returns-then-not-given-clause-below
returns-then-not-given-clause-below c = λ d b w. c.give-given.ensures.below d (b (get_or c.args.left.now c.loop-i.i 0) (c.requires.left c.loop-i.i (omega arith))) (c.loop-i.invariant.below d b w)

pub returns-clause-identified : goal.returns-clause-identified
returns-clause-identified c =
    let even : length c.args.left.now ≡ length c.args.right.now = c.if-not-same.false in
    identified-end c.args.map.now c.args.left.now c.args.right.now c.loop-i.i c.loop-i.names.items (omega arith) (omega (arith, even)) ∙ c.loop-i.invariant.identified
