use Rattle.std.proofs.Common.{◌≡◌, ◌∙◌, ◌<◌, ◌+◌, ◌++◌, ℕ, suc, None, length, drop, sym, subst, arith}
use Rattle.ref_terms.specs.search.Joint.{completed, missing}
use Rattle.eigen_align.proofs.JointLemmas.{complete-step, missing-step, complete-end, missing-end}
use Rattle.eigen_align.proofs.joint.complete.Goals as goal

pub loop-i-preserved : goal.loop-i-preserved
loop-i-preserved c =
    let within : c.loop-i.i < length c.args.names.now = omega arith in
    let up : suc c.loop-i.i ≡ c.loop-i.i + 1 = omega arith in
    record {
      names = subst (λ (j : ℕ). completed c.args.next.now c.args.names.now ≡ c.put_joint.new.map ++ completed c.put_joint.new.next (drop j c.args.names.now)) up (c.loop-i.invariant.names ∙ complete-step c.loop-i.next c.put_joint.new.next c.loop-i.i c.args.names.now c.loop-i.map c.put_joint.new.map None within c.in_ok-put_joint.ensures.map c.in_ok-put_joint.ensures.next);
      next = subst (λ (j : ℕ). c.args.next.now + missing c.args.names.now ≡ c.put_joint.new.next + missing (drop j c.args.names.now)) up (c.loop-i.invariant.next ∙ missing-step c.loop-i.next c.put_joint.new.next c.loop-i.i c.args.names.now None within c.in_ok-put_joint.ensures.next);
    }

pub returns-clause-names : goal.returns-clause-names
returns-clause-names c = sym (c.loop-i.invariant.names ∙ complete-end c.loop-i.next c.loop-i.i c.args.names.now c.loop-i.map (omega arith))

pub returns-clause-next : goal.returns-clause-next
returns-clause-next c = sym (c.loop-i.invariant.next ∙ missing-end c.loop-i.next c.loop-i.i c.args.names.now (omega arith))
