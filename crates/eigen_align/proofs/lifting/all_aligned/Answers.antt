use Rattle.std.proofs.Common.{◌≡◌, ◌∙◌, ◌<◌, ◌+◌, ℕ, suc, List, [], None, length, get_or, take, refl, sym, subst, ap, arith}
use Rattle.level_terms.proofs.GrowthLemmas.{grows-refl, grows-trans}
use Rattle.beta_fragment.specs.Names.{AllBelow}
use Rattle.eigen_align.specs.declared.sequent.Sequent.{Sequent}
use Rattle.eigen_align.specs.Sequents.{IsSequent}
use Rattle.eigen_align.specs.Aligned.{IsAligned, AreAlignedBy}
use Rattle.eigen_align.proofs.JointLemmas.{every-at, depth-at, map-got, sequents-kept}
use Rattle.eigen_align.proofs.AlignedLemmas.{aligned-next, aligned-from, take-whole}
use Rattle.eigen_align.proofs.lifting.all_aligned.Goals as goal

-- what an index past the end would give
abbrev none : Sequent
none = record { depth = 0; goal = record { index = 0 }; context = None }

pub loop-i-init : goal.loop-i-init
loop-i-init c = record {
  aligned = subst (λ (rs : List Sequent). AreAlignedBy c.args.heap.now c.args.heap.now c.args.names.now.depth [] [] rs) (sym c.new-all.ensures.items) tt;
  variables = refl;
  grows = grows-refl c.args.heap.now [];
}

pub aligned-requires-clause-sequent : goal.aligned-requires-clause-sequent
aligned-requires-clause-sequent c =
    every-at (IsSequent c.loop-i.heap) c.args.heads.now c.loop-i.i none c.loop-i-test.true (sequents-kept c.args.heap.now c.loop-i.heap c.is_sound.ensures c.loop-i.invariant.grows c.args.heads.now c.requires.sequents)

pub aligned-requires-clause-count : goal.aligned-requires-clause-count
aligned-requires-clause-count c =
    let all = c.requires.fits.all in
    let within : c.loop-i.i < length c.args.names.now.maps.items = omega (arith, all, c.loop-i-test.true) in
    ap length (map-got c.args.names.now.maps.items c.loop-i.i c.index-map.result.now within c.index-map.ensures) ∙ c.requires.fits.counts c.loop-i.i within ∙ depth-at c.args.heads.now c.loop-i.i none c.loop-i-test.true

pub aligned-requires-clause-below : goal.aligned-requires-clause-below
aligned-requires-clause-below c =
    let all = c.requires.fits.all in
    let within : c.loop-i.i < length c.args.names.now.maps.items = omega (arith, all, c.loop-i-test.true) in
    subst (λ (ns : List ℕ). AllBelow ns c.args.names.now.depth) (sym (map-got c.args.names.now.maps.items c.loop-i.i c.index-map.result.now within c.index-map.ensures)) (c.requires.fits.below c.loop-i.i within)

pub returns-in_err-s-clause-grows : goal.returns-in_err-s-clause-grows
returns-in_err-s-clause-grows c = grows-trans c.args.heap.now c.loop-i.heap c.aligned.new.heap [] [] [] c.loop-i.invariant.grows c.aligned.ensures.grows

pub returns-in_err-push-clause-grows : goal.returns-in_err-push-clause-grows
returns-in_err-push-clause-grows c = grows-trans c.args.heap.now c.loop-i.heap c.aligned.new.heap [] [] [] c.loop-i.invariant.grows c.aligned.ensures.grows

pub loop-i-preserved : goal.loop-i-preserved
loop-i-preserved c =
    let old = c.args.heap.now in
    let all = c.requires.fits.all in
    let i = c.loop-i.invariant in
    let maps = c.args.names.now.maps.items in
    let within : c.loop-i.i < length c.args.names.now.maps.items = omega (arith, all, c.loop-i-test.true) in
    let here = every-at (IsSequent old) c.args.heads.now c.loop-i.i none c.loop-i-test.true c.requires.sequents in
    let one = aligned-from old c.loop-i.heap c.aligned.new.heap (get_or c.args.heads.now c.loop-i.i none) c.index-map.result.now c.args.names.now.depth c.in_ok-s.s c.is_sound.ensures i.grows here c.in_ok-s.ensures.aligned in
    record {
      aligned = subst (λ (j : ℕ). AreAlignedBy old c.aligned.new.heap c.args.names.now.depth (take j c.args.heads.now) (take j maps) c.push.new.self.items) (let up : suc c.loop-i.i ≡ c.loop-i.i + 1 = omega arith in up)
          (aligned-next old c.loop-i.heap c.aligned.new.heap c.args.names.now.depth c.args.heads.now maps c.loop-i.all.items c.push.new.self.items c.loop-i.i none c.index-map.result.now c.in_ok-s.s c.is_sound-in-loop-i.ensures c.aligned.ensures.grows c.loop-i-test.true within
          i.aligned (subst (λ (ns : List ℕ). IsAligned old c.aligned.new.heap (get_or c.args.heads.now c.loop-i.i none) ns c.args.names.now.depth c.in_ok-s.s) c.index-map.ensures one) c.in_ok-push.ensures.items);
      variables = c.aligned.ensures.variables ∙ i.variables;
      grows = grows-trans old c.loop-i.heap c.aligned.new.heap [] [] [] i.grows c.aligned.ensures.grows;
    }

pub returns-clause-aligned : goal.returns-clause-aligned
returns-clause-aligned c =
    let all = c.requires.fits.all in
    let maps = c.args.names.now.maps.items in
    subst (λ (ss : List Sequent). AreAlignedBy c.args.heap.now c.loop-i.heap c.args.names.now.depth ss maps c.loop-i.all.items) (take-whole c.args.heads.now c.loop-i.i (omega arith))
    (subst (λ (ms : List (List ℕ)). AreAlignedBy c.args.heap.now c.loop-i.heap c.args.names.now.depth (take c.loop-i.i c.args.heads.now) ms c.loop-i.all.items) (take-whole maps c.loop-i.i (omega (arith, all))) c.loop-i.invariant.aligned)
