use Rattle.std.proofs.Common.{◌≡◌, ◌∙◌, ℕ, ◌+◌, suc, List, Option, Some, None, map, sym, ap, add-one}
use Rattle.std.specs.Option.{option_map}
use Rattle.ref_terms.specs.terms.Eta.{partial, up_partial}
use Rattle.ref_terms.specs.declared.tree.Tree.{Tree}
use Rattle.ref_terms.specs.declared.tree.Head.{Head}
use Rattle.lp_resolve.specs.inside.Replacing.{replacing}
use Rattle.lp_resolve.specs.Trees.{as_term, head_term}
use Rattle.lp_resolve.specs.inside.Build.{all_terms}
use Rattle.lp_resolve.proofs.TreesReplaced.{replaced-lam, replaced-ap, replaced-headless}
use Rattle.lp_resolve.proofs.build.+replaced.Goals as goal

pub replaced-returns-in_default-2-clause-term : goal.replaced-returns-in_default-2-clause-term
replaced-returns-in_default-2-clause-term t c =
    let h = c.in_ok-head-in-Ap.ensures.term in
    let i = c.in_default-2.is in
    let none : None ≡ partial (replacing c.args.inside c.args.target) (head_term c.in-Ap.head) = ap (λ (o : Option Head). option_map head_term o) (sym i) ∙ h in
    replaced-headless (replacing c.args.inside c.args.target) c.args.tree.now c.in-Ap.head c.in-Ap.arguments c.in-Ap.is none

pub replaced-returns-in_ok-new-in-Some-2-clause-term : goal.replaced-returns-in_ok-new-in-Some-2-clause-term
replaced-returns-in_ok-new-in-Some-2-clause-term t c =
    let h = c.in_ok-body-in-Lam.ensures.term in
    let i = c.in-Some-2.is in
    let n = c.in_ok-new-in-Some-2.ensures in
    let g = c.get.ensures in
    let d = c.in-Some.ensures in
    let deeper : c.in-Some.deeper ≡ suc c.args.inside = d.1 ∙ add-one c.args.inside in
    let body : Some (as_term c.in_ok-new-in-Some-2.field-0) ≡ partial (replacing (suc c.args.inside) c.args.target) (as_term c.in-Lam.body) =
    ap (λ (b : Tree). Some (as_term b)) n ∙ ap (λ (o : Option Tree). option_map as_term o) (sym i) ∙ h
    ∙ ap (λ (k : ℕ). partial (replacing k c.args.target) (as_term c.get.result.now)) deeper
    ∙ ap (λ (b : Tree). partial (replacing (suc c.args.inside) c.args.target) (as_term b)) g in
    replaced-lam (replacing c.args.inside c.args.target) c.args.tree.now c.in-Lam.body (Some c.in_ok-new-in-Some-2.field-0) c.in-Lam.is body

pub replaced-returns-in-None-clause-term : goal.replaced-returns-in-None-clause-term
replaced-returns-in-None-clause-term t c =
    let h = c.in_ok-body-in-Lam.ensures.term in
    let i = c.in-None.is in
    let g = c.get.ensures in
    let d = c.in-Some.ensures in
    let deeper : c.in-Some.deeper ≡ suc c.args.inside = d.1 ∙ add-one c.args.inside in
    let body : None ≡ partial (replacing (suc c.args.inside) c.args.target) (as_term c.in-Lam.body) =
    ap (λ (o : Option Tree). option_map as_term o) (sym i) ∙ h
    ∙ ap (λ (k : ℕ). partial (replacing k c.args.target) (as_term c.get.result.now)) deeper
    ∙ ap (λ (b : Tree). partial (replacing (suc c.args.inside) c.args.target) (as_term b)) g in
    replaced-lam (replacing c.args.inside c.args.target) c.args.tree.now c.in-Lam.body None c.in-Lam.is body

pub replaced-returns-in-Some-4-clause-term : goal.replaced-returns-in-Some-4-clause-term
replaced-returns-in-Some-4-clause-term t c =
    let p = replacing c.args.inside c.args.target in
    let head : option_map head_term (Some c.in-Some-3.head) ≡ partial p (head_term c.in-Ap.head) =
    ap (λ (o : Option Head). option_map head_term o) (sym c.in-Some-3.is) ∙ c.in_ok-head-in-Ap.ensures.term in
    let rest : option_map (map as_term) (Some c.in-Some-4.arguments) ≡ all_terms (map (λ (tree : Tree). partial p (as_term tree)) c.in-Ap.arguments) =
    ap (λ (o : Option (List Tree)). option_map (map as_term) o) (sym c.in-Some-4.is) ∙ c.in_ok-arguments-in-Ap.ensures.terms
    ∙ ap (λ (ts : List Tree). all_terms (map (λ (tree : Tree). partial p (as_term tree)) ts)) c.as_slice.ensures in
    replaced-ap p c.args.tree.now c.in-Ap.head c.in-Ap.arguments (Some c.in-Some-3.head) (Some c.in-Some-4.arguments) c.in-Ap.is head rest

pub replaced-returns-in-None-2-clause-term : goal.replaced-returns-in-None-2-clause-term
replaced-returns-in-None-2-clause-term t c =
    let p = replacing c.args.inside c.args.target in
    let head : option_map head_term (Some c.in-Some-3.head) ≡ partial p (head_term c.in-Ap.head) =
    ap (λ (o : Option Head). option_map head_term o) (sym c.in-Some-3.is) ∙ c.in_ok-head-in-Ap.ensures.term in
    let rest : None ≡ all_terms (map (λ (tree : Tree). partial p (as_term tree)) c.in-Ap.arguments) =
    ap (λ (o : Option (List Tree)). option_map (map as_term) o) (sym c.in-None-2.is) ∙ c.in_ok-arguments-in-Ap.ensures.terms
    ∙ ap (λ (ts : List Tree). all_terms (map (λ (tree : Tree). partial p (as_term tree)) ts)) c.as_slice.ensures in
    replaced-ap p c.args.tree.now c.in-Ap.head c.in-Ap.arguments (Some c.in-Some-3.head) None c.in-Ap.is head rest
