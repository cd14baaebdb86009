use Rattle.std.proofs.Common.{◌≡◌, ◌+◌, ◌∷◌, [], List, length, map, ap, sym, ◌∙◌, subst, arith, length-append, refl}
use Rattle.std.proofs.lemmas.List.{map-append, length-map}
use Rattle.level_terms.specs.Sound.{AllOlder}
use Rattle.level_terms.specs.declared.node.TermId.{TermId}
use Rattle.level_terms.proofs.GrowthLemmas.{grows-refl, grows-trans}
use Rattle.level_terms.specs.Values.{Value, value_of, IsLevelOf}
use Rattle.beta_fragment.specs.Moves.{AreLevelsOf, moved_level}
use Rattle.level_terms.proofs.MakeLemmas.{older-append, older-grown, values-kept}
use Rattle.beta_fragment.proofs.VarLemmas.{levels-more}
use Rattle.beta_fragment.proofs.renaming.moved_levels.Goals as goal

pub loop-level-init : goal.loop-level-init
loop-level-init c = record {
  levels = subst (λ (ts : List TermId). AreLevelsOf c.args.names.now c.args.base c.args.to 0 (map (value_of c.args.heap.now) ts)) (sym c.new-args.ensures.items) tt;
  count = ap length c.new-args.ensures.items;
  there = subst (AllOlder (length c.args.heap.now.nodes)) (sym c.new-args.ensures.items) tt;
  variables = refl;
  grows = grows-refl c.args.heap.now [];
}

pub returns-in_err-r-clause-grows : goal.returns-in_err-r-clause-grows
returns-in_err-r-clause-grows c = grows-trans c.args.heap.now c.loop-level.heap c.made_level.new.heap [] [] [] c.loop-level.invariant.grows c.made_level.ensures.grows

pub returns-in_err-push-clause-grows : goal.returns-in_err-push-clause-grows
returns-in_err-push-clause-grows c = grows-trans c.args.heap.now c.loop-level.heap c.made_level.new.heap [] [] [] c.loop-level.invariant.grows c.made_level.ensures.grows

pub loop-level-preserved : goal.loop-level-preserved
loop-level-preserved c =
    let kept = values-kept c.loop-level.heap c.made_level.new.heap c.is_sound.ensures c.made_level.ensures.grows c.loop-level.args.items c.loop-level.invariant.there in
    let here : 0 + length (map (value_of c.made_level.new.heap) c.loop-level.args.items) ≡ c.loop-level.level = (let long = length-map c.loop-level.args.items (value_of c.made_level.new.heap) in let count = c.loop-level.invariant.count in omega (arith, long, count)) in
    record {
      levels =
          subst (λ (ts : List TermId). AreLevelsOf c.args.names.now c.args.base c.args.to 0 (map (value_of c.made_level.new.heap) ts)) (sym c.in_ok-push.ensures.items)
          (subst (λ (xs : List Value). AreLevelsOf c.args.names.now c.args.base c.args.to 0 xs) (sym (map-append (value_of c.made_level.new.heap) c.loop-level.args.items (c.in_ok-r.r ∷ [])))
          (levels-more c.args.names.now c.args.base c.args.to 0 (map (value_of c.made_level.new.heap) c.loop-level.args.items) (value_of c.made_level.new.heap c.in_ok-r.r)
          (subst (λ (xs : List Value). AreLevelsOf c.args.names.now c.args.base c.args.to 0 xs) (sym kept) c.loop-level.invariant.levels)
          (subst (λ l. IsLevelOf l (value_of c.made_level.new.heap c.in_ok-r.r)) (c.in_ok-new.ensures ∙ ap (moved_level c.args.names.now c.args.base c.args.to) (sym here)) c.in_ok-r.ensures.level)));
      count =
          let long = ap length c.in_ok-push.ensures.items ∙ length-append c.loop-level.args.items (c.in_ok-r.r ∷ []) in
          let count = c.loop-level.invariant.count in
          omega (arith, long, count);
      there =
          subst (AllOlder (length c.made_level.new.heap.nodes)) (sym c.in_ok-push.ensures.items)
          (older-append (length c.made_level.new.heap.nodes) c.loop-level.args.items (c.in_ok-r.r ∷ []) (older-grown c.loop-level.heap c.made_level.new.heap c.made_level.ensures.grows c.loop-level.args.items c.loop-level.invariant.there) (c.in_ok-r.ensures.there, tt));
      variables = c.made_level.ensures.variables ∙ c.loop-level.invariant.variables;
      grows = grows-trans c.args.heap.now c.loop-level.heap c.made_level.new.heap [] [] [] c.loop-level.invariant.grows c.made_level.ensures.grows;
    }
