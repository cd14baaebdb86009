use Rattle.std.proofs.Common.{◌≡◌, ◌<◌, refl, ◌∙◌, [], ◌∷◌, ◌++◌, List, length, sym, ap, subst, arith}
use Rattle.std.specs.List.{list_all}
use Rattle.beta_fragment.proofs.SplitLemmas.{empty-list}
use Rattle.pattern_unify.specs.declared.validity.Place.{Place}
use Rattle.pattern_unify.specs.Places.{AllPlaces, valid_there, place_at, places_size}
use Rattle.pattern_unify.proofs.PlaceLemmas.{scope-before, first-valid, taken-there, own-of, not-valid, valid-after, there-after, work-falls}
use Rattle.pattern_unify.proofs.validity.is_valid_at.Goals as goal

pub loop-node-init : goal.loop-node-init
loop-node-init c =
    let first = place_at c.checked_sub-innermost.result c.args.t in
    let one : c.new-work.result.items ++ first ∷ [] ≡ first ∷ [] = ap (λ (ps : List Place). ps ++ first ∷ []) c.new-work.ensures.items in
    record {
      there = subst (AllPlaces (length c.args.heap.now.nodes)) (sym one) (c.requires.there, tt);
      same = ap (list_all (valid_there c.args.heap.now)) one ∙ first-valid c.args.heap.now c.args.t c.args.depth c.checked_sub-innermost.result (scope-before c.args.depth c.checked_sub-innermost.result c.checked_sub-innermost.ensures);
    }

pub is_own_valid-requires : goal.is_own_valid-requires
is_own_valid-requires c = taken-there (length c.args.heap.now.nodes) (c.loop-node.work.items ++ c.loop-node.place ∷ []) c.loop-node.work.items c.loop-node.place refl c.loop-node.invariant.there

pub returns-then-not-is_own_valid : goal.returns-then-not-is_own_valid
returns-then-not-is_own_valid c =
    let told = own-of c.args.heap.now c.is_sound.ensures (c.loop-node.work.items ++ c.loop-node.place ∷ []) c.loop-node.work.items c.loop-node.place refl c.view-node.result.now c.view-node.ensures c.is_own_valid.result c.is_own_valid.ensures in
    record {
      valid = not-valid c.args.heap.now c.is_sound.ensures (c.loop-node.work.items ++ c.loop-node.place ∷ []) c.loop-node.work.items c.loop-node.place refl c.view-node.result.now c.view-node.ensures (sym c.if-not-is_own_valid.true ∙ told)
          ∙ c.loop-node.invariant.same;
    }

pub view-node-requires : goal.view-node-requires
view-node-requires c = taken-there (length c.args.heap.now.nodes) (c.loop-node.work.items ++ c.loop-node.place ∷ []) c.loop-node.work.items c.loop-node.place refl c.loop-node.invariant.there

pub loop-node-smaller : goal.loop-node-smaller
loop-node-smaller c =
    subst (λ (ps : List Place). places_size c.args.heap.now ps < places_size c.args.heap.now (c.loop-node.work.items ++ c.loop-node.place ∷ [])) c.in-Some.ensures.items
    (work-falls c.args.heap.now c.is_sound.ensures (c.loop-node.work.items ++ c.loop-node.place ∷ []) c.loop-node.work.items c.loop-node.place refl c.view-node.result.now c.view-node.ensures c.push_parts.new.work.items c.in_ok-push_parts.ensures)

pub loop-node-preserved : goal.loop-node-preserved
loop-node-preserved c =
    let told = own-of c.args.heap.now c.is_sound.ensures (c.loop-node.work.items ++ c.loop-node.place ∷ []) c.loop-node.work.items c.loop-node.place refl c.view-node.result.now c.view-node.ensures c.is_own_valid.result c.is_own_valid.ensures in
    record {
      there = subst (AllPlaces (length c.args.heap.now.nodes)) c.in-Some.ensures.items
          (there-after c.args.heap.now c.is_sound.ensures (c.loop-node.work.items ++ c.loop-node.place ∷ []) c.loop-node.work.items c.loop-node.place refl c.view-node.result.now c.view-node.ensures c.push_parts.new.work.items c.in_ok-push_parts.ensures c.loop-node.invariant.there);
      same = ap (list_all (valid_there c.args.heap.now)) (sym c.in-Some.ensures.items)
          ∙ valid-after c.args.heap.now c.is_sound.ensures (c.loop-node.work.items ++ c.loop-node.place ∷ []) c.loop-node.work.items c.loop-node.place refl c.view-node.result.now c.view-node.ensures c.push_parts.new.work.items c.in_ok-push_parts.ensures
          (sym c.if-not-is_own_valid.false ∙ told) ∙ c.loop-node.invariant.same;
    }

pub returns-in-None : goal.returns-in-None
returns-in-None c =
    let told = own-of c.args.heap.now c.is_sound.ensures (c.loop-node.work.items ++ c.loop-node.place ∷ []) c.loop-node.work.items c.loop-node.place refl c.view-node.result.now c.view-node.ensures c.is_own_valid.result c.is_own_valid.ensures in
    let none = empty-list c.push_parts.new.work.items (omega (arith, c.push_parts.new.work.ok, c.in-None.ensures.cases.0)) in
    record {
      valid = ap (list_all (valid_there c.args.heap.now)) (sym none)
          ∙ valid-after c.args.heap.now c.is_sound.ensures (c.loop-node.work.items ++ c.loop-node.place ∷ []) c.loop-node.work.items c.loop-node.place refl c.view-node.result.now c.view-node.ensures c.push_parts.new.work.items c.in_ok-push_parts.ensures
          (sym c.if-not-is_own_valid.false ∙ told) ∙ c.loop-node.invariant.same;
    }
