use Rattle.std.proofs.Common.{◌∙◌, ◌++◌, [], List, ap, subst, reverse, map}
use Rattle.level_terms.specs.declared.node.TermId.{TermId}
use Rattle.level_terms.specs.Reading.{read}
use Rattle.level_terms.proofs.GrowthLemmas.{grows-refl, grows-trans}
use Rattle.beta_fragment.specs.declared.answer.Whnf.{Whnf}
use Rattle.beta_fragment.specs.HeadForm.{IsHeadForm}
use Rattle.beta_fragment.specs.Names.{names}
use Rattle.pattern_unify.specs.inside.Searching.{searching, subterm}
use Rattle.pattern_unify.proofs.GroundVerdicts.{looks-ground}
use Rattle.pattern_unify.proofs.SearchLemmas.{names-low, looks-rigid, looks-redex}
use Rattle.pattern_unify.proofs.offence.look.Goals as goal

pub returns-then-is_ground-clause-looks : goal.returns-then-is_ground-clause-looks
returns-then-is_ground-clause-looks c =
    looks-ground (searching c.args.mark.index c.args.x.index c.args.ns.now c.args.base) c.args.heap.now c.args.at.depth c.args.at.loose (read c.args.heap.now c.args.at.node.index names) c.args.work.now.items c.if-base-eq0.true
    (names-low c.args.heap.now c.args.at.node.index c.args.at.depth c.requires.valid)
    (c.is_ground.ensures c.if-is_ground.true)

pub returns-then-is_ground-clause-grows : goal.returns-then-is_ground-clause-grows
returns-then-is_ground-clause-grows c = grows-refl c.args.heap.now []

pub returns-in-Lam-clause-grows : goal.returns-in-Lam-clause-grows
returns-in-Lam-clause-grows c = grows-trans c.args.heap.now c.whnf.new.heap c.look_abstraction.new.heap [] [] [] c.whnf.ensures.grows c.look_abstraction.ensures.grows

pub returns-in-Rigid-clause-looks : goal.returns-in-Rigid-clause-looks
returns-in-Rigid-clause-looks c =
    let form = subst (λ (w : Whnf). IsHeadForm c.whnf.new.heap c.args.at.depth (read c.args.heap.now c.args.at.node.index names) w) c.in-Rigid.is c.in_ok-form.ensures.form in
    looks-rigid (searching c.args.mark.index c.args.x.index c.args.ns.now c.args.base) c.whnf.new.heap c.args.at.depth c.args.at.loose (read c.args.heap.now c.args.at.node.index names) c.in-Rigid.head c.in-Rigid.args c.args.work.now.items c.push_subterms.new.work.items c.rigid_verdict.result
    c.requires.base
    (names-low c.args.heap.now c.args.at.node.index c.args.at.depth c.requires.valid)
    form.0
    form.1
    (c.in_ok-push_subterms-in-Rigid.ensures ∙ ap (λ (ts : List TermId). c.args.work.now.items ++ reverse (map (subterm c.args.at.depth c.args.at.loose) ts)) c.as_slice.ensures)
    c.rigid_verdict.ensures

pub returns-in-Flex-clause-grows : goal.returns-in-Flex-clause-grows
returns-in-Flex-clause-grows c = grows-trans c.args.heap.now c.whnf.new.heap c.look_flexible.new.heap [] [] [] c.whnf.ensures.grows c.look_flexible.ensures.grows

pub returns-clause-looks : goal.returns-clause-looks
returns-clause-looks c =
    let form = subst (λ (w : Whnf). IsHeadForm c.whnf.new.heap c.args.at.depth (read c.args.heap.now c.args.at.node.index names) w) c.in-Redex.is c.in_ok-form.ensures.form in
    looks-redex (searching c.args.mark.index c.args.x.index c.args.ns.now c.args.base) c.whnf.new.heap c.args.at.depth c.args.at.loose (read c.args.heap.now c.args.at.node.index names) (read c.whnf.new.heap c.in-Redex.field-0.index names) c.in-Redex.field-1 c.args.work.now.items
    form.0.reads form.1 form.3
