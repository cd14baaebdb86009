use Rattle.std.proofs.Common.{◌≡◌, ◌∙◌, ℕ, ◌+◌, Some, None, sym, ap, subst, arith}
use Rattle.std.specs.Option.{option_map}
use Rattle.lp_resolve.specs.inside.Replacing.{replacing}
use Rattle.lp_resolve.proofs.Replacing.{replacing-below, replacing-here, replacing-above}
use Rattle.lp_resolve.proofs.build.replaced_index.Goals as goal

pub returns-then-index-inside : goal.returns-then-index-inside
returns-then-index-inside c = sym (replacing-below c.args.inside c.args.target c.args.index c.if-index-inside.true)

pub returns-then-inside-index : goal.returns-then-inside-index
returns-then-inside-index c = sym (replacing-above c.args.inside c.args.target c.args.index c.if-inside-index.true)

pub returns-in-None : goal.returns-in-None
returns-in-None c =
    let here : c.args.index ≡ c.args.inside = omega arith in
    sym (ap (replacing c.args.inside c.args.target) here ∙ replacing-here c.args.inside c.args.target ∙ ap (option_map (λ t. t + c.args.inside)) c.in-None.is)

pub returns-in-Some-checked_add : goal.returns-in-Some-checked_add
returns-in-Some-checked_add c =
    let here : c.args.index ≡ c.args.inside = omega arith in
    let e = c.in-Some-checked_add.ensures in
    sym (ap (replacing c.args.inside c.args.target) here ∙ replacing-here c.args.inside c.args.target ∙ ap (option_map (λ t. t + c.args.inside)) c.in-Some.is ∙ ap Some (sym e.1))
