use Rattle.std.proofs.Common.{◌++◌, option_map, sym, ap, ◌∙◌, append-nil}
use Rattle.level_terms.specs.declared.node.TermId.{TermId}
use Rattle.pattern_unify.specs.inside.Reaching.{value_node}
use Rattle.pattern_unify.proofs.reaching.push_value.Goals as goal

pub returns-in_ok-push-in-Some : goal.returns-in_ok-push-in-Some
returns-in_ok-push-in-Some c =
    c.in_ok-push-in-Some.ensures.items
    ∙ ap (λ o. c.args.work.now.items ++ value_node o) (sym (ap (option_map (λ (t : TermId). t.index)) c.in-Some.is) ∙ c.value.ensures.value)

pub returns-in-None : goal.returns-in-None
returns-in-None c =
    sym (append-nil c.args.work.now.items)
    ∙ ap (λ o. c.args.work.now.items ++ value_node o) (sym (ap (option_map (λ (t : TermId). t.index)) c.in-None.is) ∙ c.value.ensures.value)
