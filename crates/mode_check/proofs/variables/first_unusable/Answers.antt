use Rattle.std.proofs.Common.{◌≡◌, ◌∙◌, ◌++◌, Bool, not, map, zip, List, ap}
use Rattle.lp_resolve.specs.Occurrences.{Occurrence, occurrences, are_distinct_names}
use Rattle.lp_resolve.specs.StaticRules.{where_true, breaches_at, first_of}
use Rattle.lp_resolve.specs.declared.static_rule.StaticRule.TheVariants.{S4}
use Rattle.mode_check.proofs.Firsts.{where-map}
use Rattle.mode_check.proofs.variables.first_unusable.Goals as goal

pub returns : goal.returns
returns c =
    let usable : c.deref.result.now ≡ map (λ (o : Occurrence). are_distinct_names o.spine) (occurrences c.args.tree.now) =
    c.deref.ensures.value ∙ c.in_ok-note_tree.ensures
    ∙ ap (λ (bs : List Bool). bs ++ map (λ (o : Occurrence). are_distinct_names o.spine) (occurrences c.args.tree.now)) c.new-usable.ensures.items in
    c.first_marked.ensures ∙ ap (λ bs. first_of (breaches_at S4 (where_true not (zip bs c.args.vars.now)))) usable
    ∙ ap (λ ps. first_of (breaches_at S4 ps)) (where-map (λ o. are_distinct_names o.spine) not (occurrences c.args.tree.now) c.args.vars.now)
