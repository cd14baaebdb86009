use Rattle.std.proofs.Common.{◌∙◌, [], reverse, ap, subst, arith, refl}
use Rattle.level_terms.proofs.GrowthLemmas.{grows-refl, grows-trans}
use Rattle.beta_fragment.specs.inside.Cells.{terms_of, term_at}
use Rattle.beta_fragment.specs.inside.Settled.{IsQuotable}
use Rattle.beta_fragment.proofs.SettledLemmas.{quotable-arg, unwound-first, unwound-next, rigid-form, flex-form, no-index}
use Rattle.beta_fragment.proofs.settling.form_of.Goals as goal

pub loop-f-init : goal.loop-f-init
loop-f-init c = record {
  there = c.requires.there;
  unwound = unwound-first c.args.heap.now c.args.depth (term_at (terms_of c.args.cells.now) c.args.t) c.new-args.result.items c.requires.quotable c.new-args.ensures.items;
  variables = refl;
  grows = grows-refl c.args.heap.now [];
}

pub quoted-requires-clause-there : goal.quoted-requires-clause-there
quoted-requires-clause-there c =
    let parts = c.in-App.ensures.parts in
    let there = c.loop-f.invariant.there in
    let low = parts.1 in
    omega (arith, there, low)

pub quoted-requires-clause-closed : goal.quoted-requires-clause-closed
quoted-requires-clause-closed c =
    (quotable-arg c.loop-f.heap c.args.depth (term_at (terms_of c.args.cells.now) c.in-App.f) (term_at (terms_of c.args.cells.now) c.in-App.a) (subst (IsQuotable c.loop-f.heap c.args.depth) c.in-App.ensures.term c.loop-f.invariant.unwound.quotable)).closed

pub quoted-requires-clause-names : goal.quoted-requires-clause-names
quoted-requires-clause-names c =
    (quotable-arg c.loop-f.heap c.args.depth (term_at (terms_of c.args.cells.now) c.in-App.f) (term_at (terms_of c.args.cells.now) c.in-App.a) (subst (IsQuotable c.loop-f.heap c.args.depth) c.in-App.ensures.term c.loop-f.invariant.unwound.quotable)).low

pub quoted-requires-clause-variables : goal.quoted-requires-clause-variables
quoted-requires-clause-variables c =
    (quotable-arg c.loop-f.heap c.args.depth (term_at (terms_of c.args.cells.now) c.in-App.f) (term_at (terms_of c.args.cells.now) c.in-App.a) (subst (IsQuotable c.loop-f.heap c.args.depth) c.in-App.ensures.term c.loop-f.invariant.unwound.quotable)).variables

pub returns-in_err-r-in-App-clause-grows : goal.returns-in_err-r-in-App-clause-grows
returns-in_err-r-in-App-clause-grows c = grows-trans c.args.heap.now c.loop-f.heap c.quoted.new.heap [] [] [] c.loop-f.invariant.grows c.quoted.ensures.grows

pub returns-in_err-push-in-App-clause-grows : goal.returns-in_err-push-in-App-clause-grows
returns-in_err-push-in-App-clause-grows c = grows-trans c.args.heap.now c.loop-f.heap c.quoted.new.heap [] [] [] c.loop-f.invariant.grows c.quoted.ensures.grows

pub loop-f-preserved : goal.loop-f-preserved
loop-f-preserved c =
    let there = c.loop-f.invariant.there in
    let parts = c.in-App.ensures.parts in
    let low = parts.0 in
    record {
      there = omega (arith, there, low);
      unwound = unwound-next c.loop-f.heap c.quoted.new.heap c.args.depth (term_at (terms_of c.args.cells.now) c.args.t) (term_at (terms_of c.args.cells.now) c.loop-f.head) (term_at (terms_of c.args.cells.now) c.in-App.f) (term_at (terms_of c.args.cells.now) c.in-App.a) c.loop-f.args.items c.push.new.self.items c.in_ok-r-in-App.r
          c.is_sound-in-loop-f.ensures c.quoted.ensures.grows c.loop-f.invariant.unwound c.in-App.ensures.term c.in_ok-push-in-App.ensures.items c.in_ok-r-in-App.ensures.reads c.in_ok-r-in-App.ensures.valid;
      variables = c.quoted.ensures.variables ∙ c.loop-f.invariant.variables;
      grows = grows-trans c.args.heap.now c.loop-f.heap c.quoted.new.heap [] [] [] c.loop-f.invariant.grows c.quoted.ensures.grows;
    }

pub returns-in-Lam-clause-grows : goal.returns-in-Lam-clause-grows
returns-in-Lam-clause-grows c = grows-trans c.args.heap.now c.loop-f.heap c.lam_form.new.heap [] [] [] c.loop-f.invariant.grows c.lam_form.ensures.grows

pub returns-in-Rigid-clause-form : goal.returns-in-Rigid-clause-form
returns-in-Rigid-clause-form c = rigid-form c.loop-f.heap c.args.depth (term_at (terms_of c.args.cells.now) c.args.t) (term_at (terms_of c.args.cells.now) c.loop-f.head) c.loop-f.args.items c.in_ok-list-in-Rigid.list c.in-Rigid.h c.loop-f.invariant.unwound c.in-Rigid.ensures.term (c.in_ok-list-in-Rigid.ensures ∙ ap reverse c.as_slice-in-Rigid.ensures.value)

pub returns-in-Var-clause-form : goal.returns-in-Var-clause-form
returns-in-Var-clause-form c = flex-form c.loop-f.heap c.args.depth (term_at (terms_of c.args.cells.now) c.args.t) (term_at (terms_of c.args.cells.now) c.loop-f.head) c.loop-f.args.items c.in_ok-list-in-Var.list c.in-Var.v.index c.loop-f.invariant.unwound c.in-Var.ensures.term (c.in_ok-list-in-Var.ensures ∙ ap reverse c.as_slice-in-Var.ensures.value)

pub unreachable-requires : goal.unreachable-requires
unreachable-requires c = no-index c.loop-f.heap c.args.depth (term_at (terms_of c.args.cells.now) c.loop-f.head) c.in-Bound.field-0 c.loop-f.invariant.unwound.quotable c.in-Bound.ensures.term
