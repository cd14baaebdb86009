use Rattle.std.proofs.Common.{◌&&◌, List, nat_eq, ap, ◌∙◌, ℕ}
use Rattle.std.specs.List.{list_any}
use Rattle.ref_terms.specs.search.RuleInstance.{numbers_eq}
use Rattle.suspend.specs.Store.{firings}
use Rattle.sequent_rules.proofs.TryLemmas.{fired-as}
use Rattle.sequent_rules.proofs.scan.has_fired.Goals as goal

pub returns : goal.returns
returns c =
    let fs = firings c.args.store.now in
    c.fired.ensures ∙ ap (λ (ns : List ℕ). list_any (λ f. nat_eq c.args.rule f.rule && numbers_eq ns f.constraints.items) fs) c.in_ok-constraints.ensures ∙ fired-as c.args.rule c.args.ids.now fs
