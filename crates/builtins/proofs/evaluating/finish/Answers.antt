use Rattle.std.proofs.Common.{rules, ◌≡◌, reverse, sym, ◌∙◌, ap, subst, ℤ, w64, to_z, of_z, FitsSigned}
use Rattle.std.proofs.lemmas.Int.{to_z-of_z}
use Rattle.ref_terms.specs.search.Fault.{Good, Bad}
use Rattle.ref_terms.specs.declared.fault.Fault.TheVariants.{Number}
use Rattle.builtins.specs.inside.Pending.{resumed, HandsTo, IsHanding}
use Rattle.builtins.specs.declared.evaluating.Frame.TheVariants.{Right}
use Rattle.builtins.proofs.PendingLemmas.{turn-left, turn-right, turn-stopped}
use Rattle.builtins.proofs.evaluating.finish.Goals as goal

pub returns-in-Left-clause-next : goal.returns-in-Left-clause-next
returns-in-Left-clause-next c =
    subst (λ (z : ℤ). HandsTo (reverse c.args.work.now.items) (reverse c.put.new.work.items) z c.in-Left.b.index) (to_z-of_z w64 c.args.z c.ranges.z)
    (turn-left c.args.work.now.items c.loop-frame.work.items c.pop.new.self.items (to_z w64 (of_z w64 c.args.z)) (to_z w64 c.loop-frame.value-bits) c.in-Some.frame c.loop-frame.invariant c.in-Some.ensures.items c.in-Left.operator c.in-Left.b c.in-Left.is
    c.put.new.work.items c.right_frame.result c.in_ok-put-in-Left.ensures c.right_frame.ensures)

pub loop-frame-preserved : goal.loop-frame-preserved
loop-frame-preserved c =
    let fits : FitsSigned w64 c.in-Some-calculate.result = search rules in
    let left : FitsSigned w64 c.in-Right.left = search rules in
    subst (IsHanding (reverse c.args.work.now.items) (reverse c.pop.new.self.items) (to_z w64 (of_z w64 c.args.z))) (sym (to_z-of_z w64 c.in-Some-calculate.result fits))
    (turn-right c.args.work.now.items c.loop-frame.work.items c.pop.new.self.items (to_z w64 (of_z w64 c.args.z)) (to_z w64 c.loop-frame.value-bits) c.in-Some.frame c.loop-frame.invariant c.in-Some.ensures.items c.in-Right.operator
    (to_z w64 (of_z w64 c.in-Right.left)) c.in-Some-calculate.result (c.in-Right.is ∙ ap (Right c.in-Right.operator) (sym (to_z-of_z w64 c.in-Right.left left))) c.in-Some-calculate.ensures)

pub returns-in-None-clause-stops : goal.returns-in-None-clause-stops
returns-in-None-clause-stops c =
    let left : FitsSigned w64 c.in-Right.left = search rules in
    λ g. subst (λ (z : ℤ). resumed g (reverse c.args.work.now.items) (Good z) ≡ Bad Number) (to_z-of_z w64 c.args.z c.ranges.z)
    (turn-stopped c.args.work.now.items c.loop-frame.work.items c.pop.new.self.items (to_z w64 (of_z w64 c.args.z)) (to_z w64 c.loop-frame.value-bits) c.in-Some.frame c.loop-frame.invariant c.in-Some.ensures.items c.in-Right.operator
    (to_z w64 (of_z w64 c.in-Right.left)) (c.in-Right.is ∙ ap (Right c.in-Right.operator) (sym (to_z-of_z w64 c.in-Right.left left))) c.in-None.ensures g)
