use Rattle.std.proofs.Common.{◌≡◌, ℕ, ◌+◌, [], true, sym, ap, ◌∙◌, arith, subst}
use Rattle.std.proofs.lemmas.Result.{IfOk-weaker}
use Rattle.level_terms.specs.Valid.{valid}
use Rattle.level_terms.proofs.GrowthLemmas.{grows-trans}
use Rattle.ref_terms.specs.terms.Term as term
use Rattle.ref_terms.specs.terms.Apply.{fill}
use Rattle.ref_terms.specs.terms.Occurs.{occurs}
use Rattle.beta_fragment.specs.Body.{IsLam}
use Rattle.beta_fragment.specs.HeadForm.{IsAbstraction}
use Rattle.level_terms.specs.Values.{value_of}
use Rattle.beta_fragment.specs.inside.Cells.{terms_of, term_at, cell_term}
use Rattle.beta_fragment.specs.Quoted.{put_head}
use Rattle.beta_fragment.specs.inside.Quoting.{MayStand, set_for}
use Rattle.level_terms.proofs.ReadLemmas.{valid-below}
use Rattle.beta_fragment.proofs.QuoteLemmas.{quotes-lam, none-keeps}
use Rattle.beta_fragment.proofs.QuoteWork.{stand-body, body-there, no_abstraction}
use Rattle.beta_fragment.proofs.quoting.quoted.Goals as goal

pub quoted_under-requires-clause-ready : goal.quoted_under-requires-clause-ready
quoted_under-requires-clause-ready c =
    let here : term_at (terms_of c.args.cells.now) c.args.t ≡ term.Lam (term_at (terms_of c.args.cells.now) c.in-Lam.body) = c.get.ensures.term ∙ ap (cell_term (terms_of c.args.cells.now)) c.in-Lam.is in
    let stands : MayStand (set_for c.args.heap.now (terms_of c.args.cells.now) c.args.depth c.args.put) 0 (term_at (terms_of c.args.cells.now) c.args.t) = record { closed = c.requires.closed; named = c.requires.names; heads = c.requires.variables } in
    record {
      there = body-there (terms_of c.args.cells.now) c.args.t c.in-Lam.body c.get.result c.requires.there c.get.ensures.parts c.in-Lam.is;
      stands = stand-body (set_for c.args.heap.now (terms_of c.args.cells.now) c.args.depth c.args.put) 0 (term_at (terms_of c.args.cells.now) c.in-Lam.body) (subst (MayStand (set_for c.args.heap.now (terms_of c.args.cells.now) c.args.depth c.args.put) 0) here stands);
    }

pub made_lam-requires : goal.made_lam-requires
made_lam-requires c = valid-below c.quoted_under.new.heap c.in_ok-inner.inner.index (c.args.depth + 1) c.in_ok-inner.ensures.quotes.holds

pub returns-in-Lam-clause-reads : goal.returns-in-Lam-clause-reads
returns-in-Lam-clause-reads c =
    let here : term_at (terms_of c.args.cells.now) c.args.t ≡ term.Lam (term_at (terms_of c.args.cells.now) c.in-Lam.body) = c.get.ensures.term ∙ ap (cell_term (terms_of c.args.cells.now)) c.in-Lam.is in
    IfOk-weaker c.made_lam.result _ _
    (λ r w. (quotes-lam (put_head c.args.heap.now c.args.depth c.args.put) c.args.depth 0 c.args.depth (term_at (terms_of c.args.cells.now) c.in-Lam.body) (value_of c.quoted_under.new.heap c.in_ok-inner.inner) (value_of c.made_lam.new.heap r) (let z : c.args.depth ≡ c.args.depth + 0 = omega arith in z) c.in_ok-inner.ensures.quotes w).reads ∙ ap (fill (put_head c.args.heap.now c.args.depth c.args.put)) (sym here)) c.made_lam.ensures.lam

pub returns-in-Lam-clause-valid : goal.returns-in-Lam-clause-valid
returns-in-Lam-clause-valid c = IfOk-weaker c.made_lam.result _ _
    (λ r w. subst (λ (e : ℕ). valid c.made_lam.new.heap.nodes c.made_lam.new.heap.depths r.index e ≡ true) (let z : c.args.depth + 0 ≡ c.args.depth = omega arith in z) (quotes-lam (put_head c.args.heap.now c.args.depth c.args.put) c.args.depth 0 c.args.depth (term_at (terms_of c.args.cells.now) c.in-Lam.body) (value_of c.quoted_under.new.heap c.in_ok-inner.inner) (value_of c.made_lam.new.heap r) (let z : c.args.depth ≡ c.args.depth + 0 = omega arith in z) c.in_ok-inner.ensures.quotes w).holds) c.made_lam.ensures.lam

pub returns-in-Lam-clause-lam : goal.returns-in-Lam-clause-lam
returns-in-Lam-clause-lam c = IfOk-weaker c.made_lam.result _ _ (λ r w a. subst IsLam (sym w) tt) c.made_lam.ensures.node

pub returns-in-Lam-clause-unreached : goal.returns-in-Lam-clause-unreached
returns-in-Lam-clause-unreached c =
    let here : term_at (terms_of c.args.cells.now) c.args.t ≡ term.Lam (term_at (terms_of c.args.cells.now) c.in-Lam.body) = c.get.ensures.term ∙ ap (cell_term (terms_of c.args.cells.now)) c.in-Lam.is in
    IfOk-weaker c.made_lam.result _ _
    (λ r w none v absent. (quotes-lam (put_head c.args.heap.now c.args.depth c.args.put) c.args.depth 0 c.args.depth (term_at (terms_of c.args.cells.now) c.in-Lam.body) (value_of c.quoted_under.new.heap c.in_ok-inner.inner) (value_of c.made_lam.new.heap r) (let z : c.args.depth ≡ c.args.depth + 0 = omega arith in z) c.in_ok-inner.ensures.quotes w).misses
    (none-keeps c.args.heap.now c.args.depth c.args.put none) v (sym (ap (occurs v) here) ∙ absent)) c.made_lam.ensures.lam

pub returns-in-Lam-clause-grows : goal.returns-in-Lam-clause-grows
returns-in-Lam-clause-grows c = grows-trans c.args.heap.now c.quoted_under.new.heap c.made_lam.new.heap [] [] [] c.quoted_under.ensures.grows c.made_lam.ensures.grows

pub returns : goal.returns
returns c = record {
  reads = IfOk-weaker c.quoted_under-2.result _ _ (λ r w. w.reads) c.quoted_under-2.ensures.quotes;
  valid = IfOk-weaker c.quoted_under-2.result _ _
      (λ r w. subst (λ (e : ℕ). valid c.quoted_under-2.new.heap.nodes c.quoted_under-2.new.heap.depths r.index e ≡ true) (let z : c.args.depth + 0 ≡ c.args.depth = omega arith in z) w.holds) c.quoted_under-2.ensures.quotes;
  lam = IfOk-weaker c.quoted_under-2.result _ _
      (λ r w a. absurd (no_abstraction (terms_of c.args.cells.now) c.get.result c.in_default.not-Lam (subst IsAbstraction c.get.ensures.term a))) c.quoted_under-2.ensures.quotes;
  unreached = IfOk-weaker c.quoted_under-2.result _ _ (λ r w none v absent. w.misses (none-keeps c.args.heap.now c.args.depth c.args.put none) v absent) c.quoted_under-2.ensures.quotes;
  variables = c.quoted_under-2.ensures.variables;
  grows = c.quoted_under-2.ensures.grows;
}
