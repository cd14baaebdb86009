use Rattle.std.proofs.Common.{◌≡◌, ◌∙◌, Option, Some, None, sym, ap}
use Rattle.std.specs.Option.{option_map}
use Rattle.ref_terms.specs.terms.Term.{Term, At, Bound}
use Rattle.ref_terms.specs.terms.Index.{sub, first}
use Rattle.ref_terms.specs.declared.tree.Tree.{Tree}
use Rattle.lp_resolve.specs.Trees.{as_term}
use Rattle.lp_resolve.proofs.Contracting.{opening}
use Rattle.lp_resolve.proofs.build.opened.Goals as goal

pub unreachable-requires : goal.unreachable-requires
unreachable-requires c =
    let term = c.in_ok-tree.ensures.term in
    let bad : None ≡ Some (sub (first (At (Bound c.args.index))) (as_term c.args.body.now)) =
    ap (λ (o : Option Tree). option_map as_term o) (sym c.in-None.is) ∙ term ∙ opening c.args.index (as_term c.args.body.now) in
    absurd (cc)

pub returns-clause-term : goal.returns-clause-term
returns-clause-term c =
    let term = c.in_ok-tree.ensures.term in
    let same : Some (as_term c.in-Some.tree) ≡ Some (sub (first (At (Bound c.args.index))) (as_term c.args.body.now)) =
    ap (λ (o : Option Tree). option_map as_term o) (sym c.in-Some.is) ∙ term ∙ opening c.args.index (as_term c.args.body.now) in
    cc
