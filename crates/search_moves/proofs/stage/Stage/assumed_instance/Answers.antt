use Rattle.std.proofs.Common.{[], length, sym, subst}
use Rattle.level_terms.specs.Growth.{Grows}
use Rattle.level_terms.proofs.GrowthLemmas.{grows-trans}
use Rattle.hyp_clause.specs.Hyps.{assumption_in, IsHypValid}
use Rattle.ref_terms.specs.search.Instance.{assumption_instance}
use Rattle.search_moves.specs.World.{IsUsable}
use Rattle.search_moves.specs.Instances.{IsMadeOf}
use Rattle.search_moves.specs.Moves.{LeavesRest}
use Rattle.search_moves.specs.StageView.{world_of}
use Rattle.search_moves.proofs.RestLemmas.{leaves-grown}
use Rattle.search_moves.proofs.AssumedLemmas.{one-valid, made-assumed}
use Rattle.search_moves.proofs.stage.Stage.assumed_instance.Goals as goal

pub hyp_body_of-requires-clause-valid : goal.hyp_body_of-requires-clause-valid
hyp_body_of-requires-clause-valid c =
    one-valid c.self.inside.heap c.hyp_head_of.new.heap c.args.hyp.now c.is_sound.ensures c.hyp_head_of.ensures.grows (subst (λ w. IsHypValid w.heap c.args.hyp.now) (sym c.self.view_is) c.requires.valid)

pub returns-in_err-body-clause-grows : goal.returns-in_err-body-clause-grows
returns-in_err-body-clause-grows c =
    subst (λ w. Grows w.heap c.hyp_body_of.new.heap [] []) c.self.view_is
    (grows-trans c.self.inside.heap c.hyp_head_of.new.heap c.hyp_body_of.new.heap [] [] [] c.hyp_head_of.ensures.grows c.hyp_body_of.ensures.grows)

pub returns-clause-made : goal.returns-clause-made
returns-clause-made c =
    let h = c.args.hyp.now in
    let d = c.args.depth in
    let head = c.in_ok-head.head in
    let body = c.in_ok-body.body.items in
    subst (λ w. IsMadeOf (assumption_instance (assumption_in w.heap h) d (length w.heap.depths)) d c.hyp_body_of.new.heap head.args.items body) c.self.view_is
    (made-assumed c.self.inside.heap c.hyp_head_of.new.heap c.hyp_body_of.new.heap h head body d c.is_sound.ensures c.is_sound-2.ensures
    (subst (λ w. IsUsable w.heap d h) (sym c.self.view_is) c.requires.usable) (subst (λ w. IsHypValid w.heap h) (sym c.self.view_is) c.requires.valid)
    c.hyp_head_of.ensures.grows c.hyp_body_of.ensures.grows c.in_ok-head.ensures.args c.in_ok-head.ensures.valid c.in_ok-head.ensures.first c.in_ok-head.ensures.depth c.in_ok-head.ensures.depths
    c.hyp_body_of.ensures.variables c.in_ok-body.ensures.body c.in_ok-body.ensures.valid)

pub returns-clause-grows : goal.returns-clause-grows
returns-clause-grows c =
    subst (λ w. Grows w.heap c.hyp_body_of.new.heap [] []) c.self.view_is
    (grows-trans c.self.inside.heap c.hyp_head_of.new.heap c.hyp_body_of.new.heap [] [] [] c.hyp_head_of.ensures.grows c.hyp_body_of.ensures.grows)

pub returns-in_err-head-clause-rest : goal.returns-in_err-head-clause-rest
returns-in_err-head-clause-rest c =
    let w = world_of c.self.inside in
    let h = c.hyp_head_of.new.heap in
    subst (λ z. LeavesRest z (record w { heap = h })) c.self.view_is (leaves-grown w h c.is_sound.ensures c.hyp_head_of.ensures.grows)

pub returns-in_err-body-clause-rest : goal.returns-in_err-body-clause-rest
returns-in_err-body-clause-rest c =
    let w = world_of c.self.inside in
    let h = c.hyp_body_of.new.heap in
    subst (λ z. LeavesRest z (record w { heap = h })) c.self.view_is
    (leaves-grown w h c.is_sound.ensures (grows-trans w.heap c.hyp_head_of.new.heap h [] [] [] c.hyp_head_of.ensures.grows c.hyp_body_of.ensures.grows))

pub returns-clause-rest : goal.returns-clause-rest
returns-clause-rest c =
    let w = world_of c.self.inside in
    let h = c.hyp_body_of.new.heap in
    subst (λ z. LeavesRest z (record w { heap = h })) c.self.view_is
    (leaves-grown w h c.is_sound.ensures (grows-trans w.heap c.hyp_head_of.new.heap h [] [] [] c.hyp_head_of.ensures.grows c.hyp_body_of.ensures.grows))
