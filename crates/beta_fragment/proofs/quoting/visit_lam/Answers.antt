use Rattle.std.proofs.Common.{◌≡◌, ◌<◌, ◌++◌, ◌∷◌, [], List, suc, length, sym, ap, ◌∙◌, arith, subst}
use Rattle.ref_terms.specs.terms.Term as term
use Rattle.ref_terms.specs.terms.Term.{Term}
use Rattle.beta_fragment.specs.inside.Cells.{terms_of, term_at}
use Rattle.beta_fragment.specs.declared.quoting.Task.{Task}
use Rattle.beta_fragment.specs.declared.quoting.Task.TheVariants.{Visit}
use Rattle.beta_fragment.proofs.QuoteWork.{visit-lam, lam-smaller}
use Rattle.beta_fragment.proofs.quoting.visit_lam.Goals as goal

pub returns-clause-steps : goal.returns-clause-steps
returns-clause-steps c = λ s u h done e q.
    let there = subst (λ (ts : List Term). c.args.body < length ts) (sym e) c.requires.there in
    let here = subst (λ (ts : List Term). term_at ts c.args.t ≡ term.Lam (term_at ts c.args.body)) (sym e) c.requires.here in
    let inner : c.in_ok-inner.inner ≡ suc c.args.under = (let k = c.in_ok-inner.ensures in omega (arith, k)) in
    visit-lam s u h c.args.work.now.items c.push-2.new.self.items done c.args.t c.args.body c.args.under c.in_ok-inner.inner there here inner
    (c.in_ok-push-2.ensures.items ∙ ap (λ (ws : List Task). ws ++ Visit c.args.body c.in_ok-inner.inner ∷ []) c.in_ok-push.ensures.items) q

pub returns-clause-smaller : goal.returns-clause-smaller
returns-clause-smaller c =
    lam-smaller (terms_of c.args.cells.now) c.args.work.now.items c.push-2.new.self.items c.args.t c.args.body c.args.under c.in_ok-inner.inner c.requires.here
    (c.in_ok-push-2.ensures.items ∙ ap (λ (ws : List Task). ws ++ Visit c.args.body c.in_ok-inner.inner ∷ []) c.in_ok-push.ensures.items)
