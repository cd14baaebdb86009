use Rattle.std.proofs.Common.{◌≡◌, ◌∙◌, ◌<◌, ◌+◌, ℕ, suc, subst, true, false, None, length, drop, sym, ap, arith}
use Rattle.eigen_align.specs.inside.Identified.{all_allowed}
use Rattle.eigen_align.proofs.IdentifiedLemmas.{allowed-next, drop-end}
use Rattle.eigen_align.proofs.identifying.all_allow.Goals as goal

pub loop-i-preserved : goal.loop-i-preserved
loop-i-preserved c =
    let within : c.loop-i.i < length c.args.names.now = omega arith in
    subst (λ (j : ℕ). all_allowed c.args.own c.args.joint 0 c.args.names.now ≡ all_allowed c.args.own c.args.joint j (drop j c.args.names.now)) (let up : suc c.loop-i.i ≡ c.loop-i.i + 1 = omega arith in up)
    (c.loop-i.invariant ∙ allowed-next c.args.own c.args.joint c.loop-i.i c.args.names.now None true within (sym c.if-not-can.false ∙ c.allows-can.ensures))

pub returns-then-not-can : goal.returns-then-not-can
returns-then-not-can c =
    let within : c.loop-i.i < length c.args.names.now = omega arith in
    sym (c.loop-i.invariant ∙ allowed-next c.args.own c.args.joint c.loop-i.i c.args.names.now None false within (sym c.if-not-can.true ∙ c.allows-can.ensures))

pub returns : goal.returns
returns c = sym (c.loop-i.invariant ∙ ap (all_allowed c.args.own c.args.joint c.loop-i.i) (drop-end c.args.names.now c.loop-i.i (omega arith)))
