use Rattle.std.proofs.Common.{List, sym, ap, ◌∙◌, subst}
use Rattle.ref_terms.specs.terms.Term.{Term}
use Rattle.beta_fragment.specs.inside.Cells.{terms_of, cell_term}
use Rattle.beta_fragment.specs.inside.Quoting.{Unwinds}
use Rattle.beta_fragment.proofs.QuoteWork.{unwinds-first, unwinds-next, visit-app, app-smaller, front-there, last-there}
use Rattle.beta_fragment.proofs.quoting.visit_app.Goals as goal

pub loop-inner-init : goal.loop-inner-init
loop-inner-init c = unwinds-first (terms_of c.args.cells.now) c.args.t c.args.front c.args.last c.args.under c.args.done c.args.work.now.items c.push.new.self.items c.push-2.new.self.items c.requires.there c.requires.last c.requires.here c.in_ok-push.ensures.items c.in_ok-push-2.ensures.items

pub loop-inner-preserved : goal.loop-inner-preserved
loop-inner-preserved c =
    unwinds-next (terms_of c.args.cells.now) c.args.t c.loop-inner.head c.in-App.inner c.in-App.arg c.args.under c.args.done c.args.work.now.items c.loop-inner.work.items c.push-in-App.new.self.items
    (front-there (terms_of c.args.cells.now) c.loop-inner.head c.in-App.inner c.in-App.arg c.get.result c.loop-inner.invariant.there c.get.ensures.parts c.in-App.is)
    (last-there (terms_of c.args.cells.now) c.loop-inner.head c.in-App.inner c.in-App.arg c.get.result c.loop-inner.invariant.there c.get.ensures.parts c.in-App.is)
    (c.get.ensures.term ∙ ap (cell_term (terms_of c.args.cells.now)) c.in-App.is) c.in_ok-push-3.ensures.items c.loop-inner.invariant

pub returns : goal.returns
returns c = record {
  steps = λ s u h ds long e q.
      visit-app s u h c.args.work.now.items c.loop-inner.work.items c.push-3.new.self.items ds c.args.t c.loop-inner.head c.args.under c.args.done long
      (subst (λ (ts : List Term). Unwinds ts c.args.t c.loop-inner.head c.args.under c.args.done c.args.work.now.items c.loop-inner.work.items) (sym e) c.loop-inner.invariant) c.in_ok-push-4.ensures.items q;
  smaller = app-smaller (terms_of c.args.cells.now) c.args.work.now.items c.loop-inner.work.items c.push-3.new.self.items c.args.t c.loop-inner.head c.args.under c.args.done c.loop-inner.invariant c.in_ok-push-4.ensures.items;
}
