use Rattle.std.proofs.Common.{◌≡◌, ◌∙◌, ℕ, ◌≤◌, List, [], ◌∷◌, ◌++◌, Option, Some, None, length, map, sym, ap, subst, arith}
use Rattle.std.specs.Prelude.{IfOk, IsTrue}
use Rattle.std.specs.Option.{option_map}
use Rattle.std.proofs.lemmas.List.{map-append}
use Rattle.ref_terms.specs.terms.Term.{Term, App}
use Rattle.ref_terms.specs.terms.Eta.{eta}
use Rattle.ref_terms.specs.declared.tree.Tree.{Tree}
use Rattle.lp_resolve.specs.Trees.{as_term, head_term, with_arguments, shape}
use Rattle.lp_resolve.proofs.Arguments.{with-last, no-arguments}
use Rattle.lp_resolve.proofs.Shapes.{eta-ap}
use Rattle.lp_resolve.proofs.TreeForms.{term-ap}
use Rattle.lp_resolve.proofs.build.contracted.Goals as goal

pub returns-in-Some-clause-term : goal.returns-in-Some-clause-term
returns-in-Some-clause-term c =
    let front = c.in-Some.front.now in
    let last = c.in-Some.last.now in
    let args : c.in-Ap.arguments ≡ front ++ last ∷ [] = sym c.as_slice.ensures ∙ c.in-Some.ensures.cases.0 in
    let body : as_term c.args.body.now ≡ App (with_arguments (head_term c.in-Ap.head) (map as_term front)) (as_term last) =
    ap as_term c.in-Ap.is ∙ term-ap c.in-Ap.head c.in-Ap.arguments ∙ ap (λ (ts : List Tree). with_arguments (head_term c.in-Ap.head) (map as_term ts)) args
    ∙ ap (with_arguments (head_term c.in-Ap.head)) (map-append as_term front (last ∷ [])) ∙ with-last (head_term c.in-Ap.head) (map as_term front) (as_term last) in
    let P : Term → Type 0 = λ t. IfOk c.contracted_before.result (λ (answer : Option Tree). option_map as_term answer ≡ eta t) in
    subst P (sym body) c.contracted_before.ensures.term

pub returns-in-None-clause-term : goal.returns-in-None-clause-term
returns-in-None-clause-term c =
    let none : length c.in-Ap.arguments ≡ 0 = ap (λ (ts : List Tree). length ts) (sym c.as_slice.ensures) ∙ c.in-None.ensures.cases in
    let P : Tree → Type 0 = λ t. None ≡ eta (as_term t) in
    let F : Tree → Type 0 = λ t. IsTrue (shape t).fits in
    subst P (sym c.in-Ap.is) (eta-ap c.in-Ap.head c.in-Ap.arguments (omega (arith, none)) (subst F c.in-Ap.is c.requires.fits))
