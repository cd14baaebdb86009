use Rattle.std.proofs.Common.{◌≡◌, ◌+◌, ◌∷◌, [], List, length, map, ap, sym, ◌∙◌, subst, arith, length-append, refl}
use Rattle.std.proofs.lemmas.List.{map-append, length-map}
use Rattle.level_terms.specs.Sound.{AllOlder}
use Rattle.level_terms.specs.Reading.{read}
use Rattle.level_terms.specs.declared.node.TermId.{TermId}
use Rattle.level_terms.proofs.GrowthLemmas.{grows-refl, grows-trans}
use Rattle.level_terms.proofs.ValidLemmas.{growth_keeps_valid}
use Rattle.level_terms.specs.Values.{Value, value_of}
use Rattle.beta_fragment.specs.Moves.{ArePutLevels, IsPutLevel}
use Rattle.level_terms.proofs.ReadLemmas.{valid-below, grown-reads}
use Rattle.level_terms.proofs.MakeLemmas.{older-append, older-grown, values-kept}
use Rattle.beta_fragment.proofs.PutLemmas.{put-levels-more}
use Rattle.beta_fragment.proofs.putting.put_levels.Goals as goal

pub loop-i-init : goal.loop-i-init
loop-i-init c = record {
  levels = subst (λ (ts : List TermId). ArePutLevels (read c.args.heap.now c.args.put.index) c.args.level 0 (map (value_of c.args.heap.now) ts)) (sym c.new-args.ensures.items) tt;
  count = ap length c.new-args.ensures.items;
  there = subst (AllOlder (length c.args.heap.now.nodes)) (sym c.new-args.ensures.items) tt;
  variables = refl;
  grows = grows-refl c.args.heap.now [];
}

pub put_level-requires : goal.put_level-requires
put_level-requires c = growth_keeps_valid c.args.heap.now c.loop-i.heap [] [] c.args.put.index c.args.level c.is_sound.ensures c.loop-i.invariant.grows (valid-below c.args.heap.now c.args.put.index c.args.level c.requires) c.requires

pub returns-in_err-r-clause-grows : goal.returns-in_err-r-clause-grows
returns-in_err-r-clause-grows c = grows-trans c.args.heap.now c.loop-i.heap c.put_level.new.heap [] [] [] c.loop-i.invariant.grows c.put_level.ensures.grows

pub returns-in_err-push-clause-grows : goal.returns-in_err-push-clause-grows
returns-in_err-push-clause-grows c = grows-trans c.args.heap.now c.loop-i.heap c.put_level.new.heap [] [] [] c.loop-i.invariant.grows c.put_level.ensures.grows

pub loop-i-preserved : goal.loop-i-preserved
loop-i-preserved c =
    let kept = values-kept c.loop-i.heap c.put_level.new.heap c.is_sound-in-loop-i.ensures c.put_level.ensures.grows c.loop-i.args.items c.loop-i.invariant.there in
    let same = grown-reads c.args.heap.now c.loop-i.heap c.is_sound.ensures c.loop-i.invariant.grows c.args.put.index (valid-below c.args.heap.now c.args.put.index c.args.level c.requires) in
    let here : 0 + length (map (value_of c.put_level.new.heap) c.loop-i.args.items) ≡ c.loop-i.i = (let long = length-map c.loop-i.args.items (value_of c.put_level.new.heap) in let count = c.loop-i.invariant.count in omega (arith, long, count)) in
    record {
      levels =
          subst (λ (ts : List TermId). ArePutLevels (read c.args.heap.now c.args.put.index) c.args.level 0 (map (value_of c.put_level.new.heap) ts)) (sym c.in_ok-push.ensures.items)
          (subst (λ (xs : List Value). ArePutLevels (read c.args.heap.now c.args.put.index) c.args.level 0 xs) (sym (map-append (value_of c.put_level.new.heap) c.loop-i.args.items (c.in_ok-r.r ∷ [])))
          (put-levels-more (read c.args.heap.now c.args.put.index) c.args.level 0 (map (value_of c.put_level.new.heap) c.loop-i.args.items) (value_of c.put_level.new.heap c.in_ok-r.r)
          (subst (λ (xs : List Value). ArePutLevels (read c.args.heap.now c.args.put.index) c.args.level 0 xs) (sym kept) c.loop-i.invariant.levels)
          (subst (λ l. IsPutLevel (read c.args.heap.now c.args.put.index) c.args.level l (value_of c.put_level.new.heap c.in_ok-r.r)) (sym here)
          (subst (λ f. IsPutLevel f c.args.level c.loop-i.i (value_of c.put_level.new.heap c.in_ok-r.r)) same c.in_ok-r.ensures.level))));
      count =
          let long = ap length c.in_ok-push.ensures.items ∙ length-append c.loop-i.args.items (c.in_ok-r.r ∷ []) in
          let count = c.loop-i.invariant.count in
          omega (arith, long, count);
      there =
          subst (AllOlder (length c.put_level.new.heap.nodes)) (sym c.in_ok-push.ensures.items)
          (older-append (length c.put_level.new.heap.nodes) c.loop-i.args.items (c.in_ok-r.r ∷ []) (older-grown c.loop-i.heap c.put_level.new.heap c.put_level.ensures.grows c.loop-i.args.items c.loop-i.invariant.there) (c.in_ok-r.ensures.there, tt));
      variables = c.put_level.ensures.variables ∙ c.loop-i.invariant.variables;
      grows = grows-trans c.args.heap.now c.loop-i.heap c.put_level.new.heap [] [] [] c.loop-i.invariant.grows c.put_level.ensures.grows;
    }
