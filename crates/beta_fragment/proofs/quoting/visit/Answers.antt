use Rattle.std.proofs.Common.{◌≡◌, [], refl, ap, ◌∙◌, subst}
use Rattle.level_terms.proofs.GrowthLemmas.{grows-refl}
use Rattle.ref_terms.specs.terms.Term as term
use Rattle.ref_terms.specs.terms.Term.{At}
use Rattle.beta_fragment.specs.HeadForm.{rigid_head}
use Rattle.level_terms.specs.Values.{value_of}
use Rattle.beta_fragment.specs.inside.Cells.{terms_of, term_at, cell_term}
use Rattle.beta_fragment.specs.Quoted.{AllNamesBelow, names_with, put_head}
use Rattle.beta_fragment.specs.declared.quoting.Task.TheVariants.{Visit}
use Rattle.beta_fragment.proofs.QuoteLemmas.{quotes-head, var-head}
use Rattle.beta_fragment.proofs.QuoteWork.{visit-head, done-smaller}
use Rattle.beta_fragment.proofs.quoting.visit.Goals as goal

pub rigid_node-requires-clause-named : goal.rigid_node-requires-clause-named
rigid_node-requires-clause-named c =
    let here : term_at (terms_of c.args.cells.now) c.args.t ≡ At (rigid_head c.in-Rigid.head) = c.get.ensures.term ∙ ap (cell_term (terms_of c.args.cells.now)) c.in-Rigid.is in
    subst (AllNamesBelow (names_with c.args.depth c.args.put)) here c.requires.ready.stands.named

pub returns-in-Lam-clause-grows : goal.returns-in-Lam-clause-grows
returns-in-Lam-clause-grows c = grows-refl c.args.heap.now []

pub returns-in-App-clause-grows : goal.returns-in-App-clause-grows
returns-in-App-clause-grows c = grows-refl c.args.heap.now []

pub returns-in_ok-push-in-Rigid-clause-steps : goal.returns-in_ok-push-in-Rigid-clause-steps
returns-in_ok-push-in-Rigid-clause-steps c = λ g u same q.
    visit-head g c.args.heap.now c.rigid_node.new.heap (terms_of c.args.cells.now) c.args.depth c.args.put u c.args.work.now.items c.args.done.now.items c.push.new.self.items c.args.t c.args.under c.in_ok-r-in-Rigid.r (At (rigid_head c.in-Rigid.head)) c.is_sound.ensures c.in_ok-r-in-Rigid.ensures.grows
    (c.get.ensures.term ∙ ap (cell_term (terms_of c.args.cells.now)) c.in-Rigid.is) same (c.in_ok-r-in-Rigid.ensures.quotes c.args.under) c.in_ok-push-in-Rigid.ensures.items q

pub returns-in_ok-push-in-Rigid-clause-smaller : goal.returns-in_ok-push-in-Rigid-clause-smaller
returns-in_ok-push-in-Rigid-clause-smaller c = done-smaller (terms_of c.args.cells.now) c.args.work.now.items (Visit c.args.t c.args.under)

pub returns-in_ok-push-in-Bound-clause-steps : goal.returns-in_ok-push-in-Bound-clause-steps
returns-in_ok-push-in-Bound-clause-steps c = λ g u same q.
    visit-head g c.args.heap.now c.index_node.new.heap (terms_of c.args.cells.now) c.args.depth c.args.put u c.args.work.now.items c.args.done.now.items c.push-in-Bound.new.self.items c.args.t c.args.under c.in_ok-r-in-Bound.r (At (term.Bound c.in-Bound.i)) c.is_sound.ensures c.in_ok-r-in-Bound.ensures.grows
    (c.get.ensures.term ∙ ap (cell_term (terms_of c.args.cells.now)) c.in-Bound.is) same (c.in_ok-r-in-Bound.ensures.quotes (put_head c.args.heap.now c.args.depth c.args.put)) c.in_ok-push-in-Bound.ensures.items q

pub returns-in_ok-push-in-Bound-clause-smaller : goal.returns-in_ok-push-in-Bound-clause-smaller
returns-in_ok-push-in-Bound-clause-smaller c = done-smaller (terms_of c.args.cells.now) c.args.work.now.items (Visit c.args.t c.args.under)

pub returns-in_ok-push-in-Var-clause-steps : goal.returns-in_ok-push-in-Var-clause-steps
returns-in_ok-push-in-Var-clause-steps c = λ g u same q.
    visit-head g c.args.heap.now c.bare_var.new.heap (terms_of c.args.cells.now) c.args.depth c.args.put u c.args.work.now.items c.args.done.now.items c.push-in-Var.new.self.items c.args.t c.args.under c.in_ok-r-in-Var.r (At (term.Var c.in-Var.v.index)) c.is_sound.ensures c.in_ok-r-in-Var.ensures.grows
    (c.get.ensures.term ∙ ap (cell_term (terms_of c.args.cells.now)) c.in-Var.is) same
    (quotes-head c.args.heap.now c.args.depth c.args.put c.args.under (term.Var c.in-Var.v.index) (value_of c.bare_var.new.heap c.in_ok-r-in-Var.r) tt refl (var-head c.in-Var.v.index (value_of c.bare_var.new.heap c.in_ok-r-in-Var.r) c.in_ok-r-in-Var.ensures.open))
    c.in_ok-push-in-Var.ensures.items q

pub returns-in_ok-push-in-Var-clause-smaller : goal.returns-in_ok-push-in-Var-clause-smaller
returns-in_ok-push-in-Var-clause-smaller c = done-smaller (terms_of c.args.cells.now) c.args.work.now.items (Visit c.args.t c.args.under)
