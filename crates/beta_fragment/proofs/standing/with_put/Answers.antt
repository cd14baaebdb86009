use Rattle.std.proofs.Common.{◌≡◌, ◌+◌, [], List, map, sym, ap, ◌∙◌, subst}
use Rattle.std.proofs.lemmas.Result.{IfOk-weaker}
use Rattle.level_terms.specs.Reading.{read}
use Rattle.level_terms.proofs.GrowthLemmas.{grows-refl, grows-trans}
use Rattle.level_terms.proofs.ValidLemmas.{growth_keeps_valid}
use Rattle.ref_terms.specs.unification.Spine.{apply_all}
use Rattle.level_terms.specs.declared.node.TermId.{TermId}
use Rattle.ref_terms.specs.terms.Apply.{fill}
use Rattle.ref_terms.specs.terms.Ready.{ready}
use Rattle.beta_fragment.specs.Moves.{put_name}
use Rattle.beta_fragment.specs.Names.{names}
use Rattle.beta_fragment.specs.HeadForm.{IsHeadForm, all_read, rigid_head}
use Rattle.level_terms.proofs.ReadLemmas.{read-built, valid-below, grown-reads}
use Rattle.beta_fragment.proofs.HeadLemmas.{valid-grown_all}
use Rattle.beta_fragment.proofs.StandLemmas.{put-here, put-other, with-rigid, with-flex, redex-valid, with-redex}
use Rattle.beta_fragment.proofs.standing.with_put.Goals as goal

pub form_before-requires-clause-valid : goal.form_before-requires-clause-valid
form_before-requires-clause-valid c = growth_keeps_valid c.args.heap.now c.put_each.new.heap [] [] c.args.put.index c.args.depth c.is_sound.ensures c.put_each.ensures.grows (valid-below c.args.heap.now c.args.put.index c.args.depth c.requires.put) c.requires.put

pub returns-then-is_stand_in-clause-form : goal.returns-then-is_stand_in-clause-form
returns-then-is_stand_in-clause-form c = IfOk-weaker c.form_before.result _ _
    (λ w f x k.
    let s = read c.args.heap.now c.args.put.index names in
    let same = ap (λ r. r names) (grown-reads c.args.heap.now c.put_each.new.heap c.is_sound.ensures c.put_each.ensures.grows c.args.put.index (valid-below c.args.heap.now c.args.put.index c.args.depth c.requires.put)) in
    let whole = with-rigid c.args.heap.now c.args.depth (read c.args.heap.now c.args.put.index names) x c.args.form c.in-Rigid.head c.in-Rigid.args (all_read c.put_each.new.heap c.in_ok-list-in-Rigid.list) (read-built c.args.heap.now c.args.put.index names) c.requires.ready c.in-Rigid.is k (c.in_ok-list-in-Rigid.ensures.reads ∙ ap (λ (us : List TermId). map (fill (put_name c.args.depth (read c.args.heap.now c.args.put.index names))) (all_read c.args.heap.now us)) c.as_slice.ensures)
    ∙ ap (λ z. apply_all z (all_read c.put_each.new.heap c.in_ok-list-in-Rigid.list)) (put-here c.args.depth (read c.args.heap.now c.args.put.index names) (rigid_head c.in-Rigid.head) (c.is_stand_in.ensures ∙ c.if-is_stand_in.true) ∙ sym same) in
    subst (λ u. IsHeadForm c.form_before.new.heap c.args.depth u w) (sym whole) f)
    c.form_before.ensures.form

pub returns-then-is_stand_in-clause-grows : goal.returns-then-is_stand_in-clause-grows
returns-then-is_stand_in-clause-grows c = grows-trans c.args.heap.now c.put_each.new.heap c.form_before.new.heap [] [] [] c.put_each.ensures.grows c.form_before.ensures.grows

pub returns-else-is_stand_in-clause-form : goal.returns-else-is_stand_in-clause-form
returns-else-is_stand_in-clause-form c = λ x k. (
  c.in_ok-list-in-Rigid.ensures.valid,
  with-rigid c.args.heap.now c.args.depth (read c.args.heap.now c.args.put.index names) x c.args.form c.in-Rigid.head c.in-Rigid.args (all_read c.put_each.new.heap c.in_ok-list-in-Rigid.list) (read-built c.args.heap.now c.args.put.index names) c.requires.ready c.in-Rigid.is k (c.in_ok-list-in-Rigid.ensures.reads ∙ ap (λ (us : List TermId). map (fill (put_name c.args.depth (read c.args.heap.now c.args.put.index names))) (all_read c.args.heap.now us)) c.as_slice.ensures)
      ∙ ap (λ z. apply_all z (all_read c.put_each.new.heap c.in_ok-list-in-Rigid.list)) (put-other c.args.depth (read c.args.heap.now c.args.put.index names) (rigid_head c.in-Rigid.head) (c.is_stand_in.ensures ∙ c.if-is_stand_in.false)),
)

pub returns-in_ok-list-in-Flex-clause-form : goal.returns-in_ok-list-in-Flex-clause-form
returns-in_ok-list-in-Flex-clause-form c = λ x k.
    with-flex c.args.heap.now c.put_each-in-Flex.new.heap c.args.depth (read c.args.heap.now c.args.put.index names) x c.args.form c.in-Flex.v c.in-Flex.args c.in_ok-list-in-Flex.list (read-built c.args.heap.now c.args.put.index names) c.requires.ready c.put_each-in-Flex.ensures.grows c.put_each-in-Flex.ensures.variables c.in-Flex.is (c.in_ok-list-in-Flex.ensures.reads ∙ ap (λ (us : List TermId). map (fill (put_name c.args.depth (read c.args.heap.now c.args.put.index names))) (all_read c.args.heap.now us)) c.as_slice-in-Flex.ensures) c.in_ok-list-in-Flex.ensures.valid k

pub put_name-requires-in-Redex-clause-put : goal.put_name-requires-in-Redex-clause-put
put_name-requires-in-Redex-clause-put c = growth_keeps_valid c.args.heap.now c.put_each-in-Redex.new.heap [] [] c.args.put.index c.args.depth c.is_sound.ensures c.put_each-in-Redex.ensures.grows (valid-below c.args.heap.now c.args.put.index c.args.depth c.requires.put) c.requires.put

pub put_name-requires-in-Redex-clause-taken : goal.put_name-requires-in-Redex-clause-taken
put_name-requires-in-Redex-clause-taken c = λ _.
    ap (λ f. ready (f names)) (grown-reads c.args.heap.now c.put_each-in-Redex.new.heap c.is_sound.ensures c.put_each-in-Redex.ensures.grows c.args.put.index (valid-below c.args.heap.now c.args.put.index c.args.depth c.requires.put)) ∙ c.requires.ready

pub put_name-requires-in-Redex-clause-valid : goal.put_name-requires-in-Redex-clause-valid
put_name-requires-in-Redex-clause-valid c =
    let here = redex-valid c.args.heap.now (c.args.depth + 1) c.args.form c.in-Redex.t c.in-Redex.args c.in-Redex.is c.requires.form in
    growth_keeps_valid c.args.heap.now c.put_each-in-Redex.new.heap [] [] c.in-Redex.t.index (c.args.depth + 1) c.is_sound.ensures c.put_each-in-Redex.ensures.grows (valid-below c.args.heap.now c.in-Redex.t.index (c.args.depth + 1) here) here

pub returns-in_err-r-in-Redex-clause-grows : goal.returns-in_err-r-in-Redex-clause-grows
returns-in_err-r-in-Redex-clause-grows c = grows-trans c.args.heap.now c.put_each-in-Redex.new.heap c.put_name-in-Redex.new.heap [] [] [] c.put_each-in-Redex.ensures.grows c.put_name-in-Redex.ensures.grows

pub lam_before-requires-in-Redex-clause-args : goal.lam_before-requires-in-Redex-clause-args
lam_before-requires-in-Redex-clause-args c = valid-grown_all c.put_each-in-Redex.new.heap c.put_name-in-Redex.new.heap c.args.depth c.is_sound-in-Redex.ensures c.put_name-in-Redex.ensures.grows c.in_ok-list-in-Redex.list c.in_ok-list-in-Redex.ensures.valid

pub returns-in_ok-r-in-Lam-clause-grows : goal.returns-in_ok-r-in-Lam-clause-grows
returns-in_ok-r-in-Lam-clause-grows c = grows-trans c.args.heap.now c.put_name.new.heap c.lam_before.new.heap [] [] [] c.put_name.ensures.grows c.lam_before.ensures.grows

pub returns-in_ok-r-in-Redex-clause-form : goal.returns-in_ok-r-in-Redex-clause-form
returns-in_ok-r-in-Redex-clause-form c = IfOk-weaker c.lam_before-in-Redex.result _ _
    (λ w f x k.
    subst (λ u. IsHeadForm c.lam_before-in-Redex.new.heap c.args.depth u w)
    (sym (with-redex c.args.heap.now c.put_each-in-Redex.new.heap c.put_name-in-Redex.new.heap c.args.depth x c.args.form c.in-Redex.t c.args.put c.in_ok-r-in-Redex.r c.in-Redex.args c.in_ok-list-in-Redex.list c.is_sound.ensures c.is_sound-in-Redex.ensures c.put_each-in-Redex.ensures.grows c.put_name-in-Redex.ensures.grows c.requires.put c.requires.ready c.in-Redex.is (c.in_ok-list-in-Redex.ensures.reads ∙ ap (λ (us : List TermId). map (fill (put_name c.args.depth (read c.args.heap.now c.args.put.index names))) (all_read c.args.heap.now us)) c.as_slice-in-Redex.ensures) c.in_ok-list-in-Redex.ensures.valid c.in_ok-r-in-Redex.ensures.reads k)) f)
    c.lam_before-in-Redex.ensures.form

pub returns-in_ok-r-in-Redex-clause-grows : goal.returns-in_ok-r-in-Redex-clause-grows
returns-in_ok-r-in-Redex-clause-grows c = grows-trans c.args.heap.now c.put_each-in-Redex.new.heap c.lam_before-in-Redex.new.heap [] [] [] c.put_each-in-Redex.ensures.grows
    (grows-trans c.put_each-in-Redex.new.heap c.put_name-in-Redex.new.heap c.lam_before-in-Redex.new.heap [] [] [] c.put_name-in-Redex.ensures.grows c.lam_before-in-Redex.ensures.grows)
