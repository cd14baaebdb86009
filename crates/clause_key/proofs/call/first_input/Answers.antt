use Rattle.std.proofs.Common.{◌≡◌, ◌∙◌, ◌+◌, sym, ap, length, drop, arith, suc}
use Rattle.clause_key.specs.Keys as spec
use Rattle.clause_key.proofs.ArgumentLemmas.{input-later, input-stop}
use Rattle.std.proofs.Math.Nat.{min-le_left, min-le_right}
use Rattle.clause_key.proofs.call.first_input.Goals as goal

pub loop-i-preserved : goal.loop-i-preserved
loop-i-preserved c =
    let left = min-le_left (length c.args.inputs.now) (length c.args.args.now) in
    let right = min-le_right (length c.args.inputs.now) (length c.args.args.now) in
    ap (λ n. spec.first_input (drop n c.args.inputs.now) (drop n c.args.args.now)) (let z : c.loop-i.i + 1 ≡ suc c.loop-i.i = omega arith in z)
    ∙ sym (input-later c.args.inputs.now c.args.args.now (record { index = 0 }) c.loop-i.i (omega (arith, left, c.loop-i-test.true, c.min-count.ensures)) (omega (arith, right, c.loop-i-test.true, c.min-count.ensures)) c.if-inputs-i.false)
    ∙ c.loop-i.invariant

pub returns : goal.returns
returns c = sym (input-stop c.args.inputs.now c.args.args.now c.loop-i.i (omega (arith, c.loop-i-test.false, c.min-count.ensures))) ∙ c.loop-i.invariant
