use Rattle.std.proofs.Common.{◌≡◌, ◌+◌, ◌-◌, suc, Some, None, option_map, ap, ◌∙◌, arith, sym}
use Rattle.ref_terms.specs.terms.Term as term
use Rattle.beta_fragment.specs.inside.Taking.{images, outside, raised}
use Rattle.beta_fragment.specs.inside.Cells.{term_at}
use Rattle.beta_fragment.specs.declared.taking.Replacement.TheVariants.{Part, Missing, Raised}
use Rattle.beta_fragment.proofs.TakingLaws.{image-at, image-lower_part, image-lower_missing}
use Rattle.beta_fragment.proofs.taking.image.Goals as goal

pub returns-in_ok-index-in-Raised : goal.returns-in_ok-index-in-Raised
returns-in_ok-index-in-Raised c = λ ts.
    let here : c.args.i ≡ (c.args.i - c.args.under) + c.args.under = omega (arith, c.requires) in
    let sum : (c.args.i - c.args.under) + c.in-Raised.j + c.args.under ≡ c.in_ok-index-in-Raised.index = omega (arith, c.requires, c.in_ok-index-in-Raised.ensures) in
    image-at ts c.args.put c.args.under c.args.i (c.args.i - c.args.under) here
    ∙ ap (λ p. option_map (raised c.args.under) (outside ts p (c.args.i - c.args.under))) c.in-Raised.is
    ∙ ap (λ n. Some (term.At (term.Bound n))) sum

pub returns-then-under-i : goal.returns-then-under-i
returns-then-under-i c = λ ts. ap (λ p. images ts p c.args.under c.args.i) c.in-Missing.is ∙ image-lower_missing ts c.args.under c.args.i c.if-under-i.true

pub returns-then-under-i-2 : goal.returns-then-under-i-2
returns-then-under-i-2 c = λ ts. ap (λ p. images ts p c.args.under c.args.i) c.in-Part.is ∙ image-lower_part ts c.in-Part.p c.args.under c.args.i c.if-under-i-2.true

pub returns-else-under-i : goal.returns-else-under-i
returns-else-under-i c = λ ts.
    let here : c.args.i ≡ 0 + c.args.under = omega (arith, c.requires, c.if-under-i.false) in
    ap (λ p. images ts p c.args.under c.args.i) c.in-Missing.is ∙ image-at ts Missing c.args.under c.args.i 0 here

pub returns-else-under-i-2 : goal.returns-else-under-i-2
returns-else-under-i-2 c = λ ts.
    let here : c.args.i ≡ 0 + c.args.under = omega (arith, c.requires, c.if-under-i-2.false) in
    (c.in-Part.is, ap (λ p. images ts p c.args.under c.args.i) c.in-Part.is ∙ image-at ts (Part c.in-Part.p) c.args.under c.args.i 0 here)
