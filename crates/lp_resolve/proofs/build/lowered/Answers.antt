use Rattle.std.proofs.Common.{◌≡◌, ◌∙◌, ℕ, List, Option, Some, None, map, sym, ap}
use Rattle.std.specs.Option.{option_map}
use Rattle.ref_terms.specs.terms.Term.{Term}
use Rattle.ref_terms.specs.terms.Eta.{partial, lower}
use Rattle.ref_terms.specs.declared.tree.Tree.{Tree}
use Rattle.ref_terms.specs.declared.tree.Head.{Head}
use Rattle.lp_resolve.specs.inside.Replacing.{replacing}
use Rattle.lp_resolve.specs.Trees.{as_term, head_term, with_arguments}
use Rattle.lp_resolve.specs.inside.Build.{all_terms}
use Rattle.lp_resolve.proofs.Contracting.{lower-replacing}
use Rattle.lp_resolve.proofs.TreesReplaced.{replaced-terms, headless-terms}
use Rattle.lp_resolve.proofs.TreeForms.{term-ap}
use Rattle.lp_resolve.proofs.build.lowered.Goals as goal

pub returns-in_default-clause-term : goal.returns-in_default-clause-term
returns-in_default-clause-term c =
    let h : None ≡ partial (replacing 0 None) (head_term c.args.head.now) = ap (λ (o : Option Head). option_map head_term o) (sym c.in_default.is) ∙ c.in_ok-head.ensures.term in
    headless-terms (replacing 0 None) c.args.head.now c.args.arguments.now h ∙ lower-replacing (with_arguments (head_term c.args.head.now) (map as_term c.args.arguments.now))

pub returns-in-Some-2-clause-term : goal.returns-in-Some-2-clause-term
returns-in-Some-2-clause-term c =
    let p = replacing 0 None in
    let h : option_map head_term (Some c.in-Some.head) ≡ partial p (head_term c.args.head.now) = ap (λ (o : Option Head). option_map head_term o) (sym c.in-Some.is) ∙ c.in_ok-head.ensures.term in
    let rest : option_map (map as_term) (Some c.in-Some-2.arguments) ≡ all_terms (map (λ (tree : Tree). partial p (as_term tree)) c.args.arguments.now) =
    ap (λ (o : Option (List Tree)). option_map (map as_term) o) (sym c.in-Some-2.is) ∙ c.in_ok-arguments.ensures.terms in
    ap Some (c.with_arguments.ensures.term ∙ sym (term-ap c.in-Some.head c.in-Some-2.arguments))
    ∙ replaced-terms p c.args.head.now c.args.arguments.now (Some c.in-Some.head) (Some c.in-Some-2.arguments) h rest
    ∙ lower-replacing (with_arguments (head_term c.args.head.now) (map as_term c.args.arguments.now))

pub returns-in-None-clause-term : goal.returns-in-None-clause-term
returns-in-None-clause-term c =
    let p = replacing 0 None in
    let h : option_map head_term (Some c.in-Some.head) ≡ partial p (head_term c.args.head.now) = ap (λ (o : Option Head). option_map head_term o) (sym c.in-Some.is) ∙ c.in_ok-head.ensures.term in
    let rest : None ≡ all_terms (map (λ (tree : Tree). partial p (as_term tree)) c.args.arguments.now) =
    ap (λ (o : Option (List Tree)). option_map (map as_term) o) (sym c.in-None.is) ∙ c.in_ok-arguments.ensures.terms in
    replaced-terms p c.args.head.now c.args.arguments.now (Some c.in-Some.head) None h rest
    ∙ lower-replacing (with_arguments (head_term c.args.head.now) (map as_term c.args.arguments.now))
