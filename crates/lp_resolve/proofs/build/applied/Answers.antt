use Rattle.std.proofs.Common.{◌≡◌, ◌∙◌, ℕ, List, [], ◌∷◌, ◌++◌, Option, Some, None, map, sym, ap, subst}
use Rattle.std.specs.Prelude.{IfOk, IsTrue}
use Rattle.std.proofs.lemmas.List.{map-append}
use Rattle.ref_terms.specs.terms.Term.{Term, Lam, At, App, Bound}
use Rattle.ref_terms.specs.terms.Index.{sub, first}
use Rattle.ref_terms.specs.terms.Text.{text_apply}
use Rattle.ref_terms.specs.declared.tree.Tree.{Tree}
use Rattle.ref_terms.specs.declared.tree.Tree.TheVariants.{Ap}
use Rattle.lp_resolve.specs.Trees.{as_term, head_term, with_arguments, Shape, shape, head_shape, all_fit}
use Rattle.lp_resolve.proofs.Applying.{apply-bound, apply-stuck}
use Rattle.lp_resolve.proofs.Arguments.{with-last}
use Rattle.lp_resolve.proofs.Shapes.{Fits, fits-ap, ap-fits, open-ap, apply-open, nameless-tree, fits-pushed}
use Rattle.lp_resolve.proofs.TreeForms.{term-lam, term-ap}
use Rattle.lp_resolve.proofs.build.applied.Goals as goal

pub returns-in-Some-clause-term : goal.returns-in-Some-clause-term
returns-in-Some-clause-term c =
    let to : text_apply (as_term c.args.tree) (as_term c.args.argument) ≡ sub (first (At (Bound c.in-Some.index))) (as_term c.get.result.now) =
    ap (λ (t : Term). text_apply t (as_term c.args.argument)) (ap as_term c.in-Lam.is ∙ term-lam c.in-Lam.body)
    ∙ apply-bound (as_term c.in-Lam.body) (as_term c.args.argument) c.in-Some.index (sym c.in-Some.ensures)
    ∙ ap (λ (t : Tree). sub (first (At (Bound c.in-Some.index))) (as_term t)) (sym c.get.ensures) in
    let P : Term → Type 0 = λ t. IfOk c.opened.result (λ (new : Tree). as_term new ≡ t) in
    subst P (sym to) c.opened.ensures.term

pub returns-in-None-clause-term : goal.returns-in-None-clause-term
returns-in-None-clause-term c =
    let to : text_apply (as_term c.args.tree) (as_term c.args.argument) ≡ App (Lam (as_term c.in-Lam.body)) (as_term c.args.argument) =
    ap (λ (t : Term). text_apply t (as_term c.args.argument)) (ap as_term c.in-Lam.is ∙ term-lam c.in-Lam.body)
    ∙ apply-stuck (as_term c.in-Lam.body) (as_term c.args.argument) (nameless-tree c.args.argument c.requires.argument) (sym c.in-None.ensures) in
    let P : Term → Type 0 = λ t. IfOk c.stuck.result (λ (new : Tree). as_term new ≡ t) in
    subst P (sym to) c.stuck.ensures.term

pub returns-in_ok-push-in-Ap-clause-term : goal.returns-in_ok-push-in-Ap-clause-term
returns-in_ok-push-in-Ap-clause-term c =
    let F : Tree → Type 0 = λ t. IsTrue (shape t).fits in
    let fits = ap-fits c.in-Ap.head c.in-Ap.arguments (subst F c.in-Ap.is c.requires.tree) in
    let old = with_arguments (head_term c.in-Ap.head) (map as_term c.in-Ap.arguments) in
    let pushed : c.push.new.self ≡ c.in-Ap.arguments ++ c.args.argument ∷ [] = c.in_ok-push-in-Ap.ensures.last in
    term-ap c.in-Ap.head c.push.new.self ∙ ap (λ (ts : List Tree). with_arguments (head_term c.in-Ap.head) (map as_term ts)) pushed
    ∙ ap (with_arguments (head_term c.in-Ap.head)) (map-append as_term c.in-Ap.arguments (c.args.argument ∷ []))
    ∙ with-last (head_term c.in-Ap.head) (map as_term c.in-Ap.arguments) (as_term c.args.argument)
    ∙ sym (apply-open old (as_term c.args.argument) (open-ap c.in-Ap.head c.in-Ap.arguments fits))
    ∙ sym (ap (λ (t : Term). text_apply t (as_term c.args.argument)) (ap as_term c.in-Ap.is ∙ term-ap c.in-Ap.head c.in-Ap.arguments))

pub returns-in_ok-push-in-Ap-clause-fits : goal.returns-in_ok-push-in-Ap-clause-fits
returns-in_ok-push-in-Ap-clause-fits c =
    let F : Tree → Type 0 = λ t. IsTrue (shape t).fits in
    let fits = ap-fits c.in-Ap.head c.in-Ap.arguments (subst F c.in-Ap.is c.requires.tree) in
    let G : List Tree → Type 0 = λ ts. IsTrue (shape (Ap c.in-Ap.head ts)).fits in
    subst G (sym c.in_ok-push-in-Ap.ensures.last) (fits-pushed c.in-Ap.head c.in-Ap.arguments c.args.argument fits c.requires.argument)
