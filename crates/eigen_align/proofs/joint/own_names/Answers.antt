use Rattle.std.proofs.Common.{◌≡◌, ◌∙◌, ◌<◌, ◌+◌, ℕ, suc, List, [], Bool, cond, Option, Some, None, IfSome, length, replicate, drop, get_or, slice_index, refl, sym, subst, ap, arith}
use Rattle.level_terms.proofs.GrowthLemmas.{grows-refl, grows-trans}
use Rattle.ref_terms.specs.declared.pair.Pair.{Pair}
use Rattle.ref_terms.specs.search.Branch.{Constraint}
use Rattle.eigen_align.specs.Counts.{depths_of, AreBelow}
use Rattle.eigen_align.specs.Sequents.{sequents_read}
use Rattle.eigen_align.specs.declared.sequent.Sequent.{Sequent}
use Rattle.eigen_align.specs.inside.Identified.{aligned_at, all_aligned_at}
use Rattle.eigen_align.proofs.IdentifiedLemmas.{drop-end}
use Rattle.eigen_align.proofs.JointLemmas.{every-at, every-repeated, depth-at, filtered, all_at-next, all_at-none, repeated-count, sequents-stay, sequents-kept}
use Rattle.eigen_align.proofs.joint.own_names.Goals as goal

-- what an index past the end would give
abbrev none : Sequent
none = record { depth = 0; goal = record { index = 0 }; context = None }

abbrev no_pair : Pair
no_pair = record { left_head = 0; left_arg = 0; right_head = 0; right_arg = 0 }

pub loop-k-init : goal.loop-k-init
loop-k-init c =
    let made : c.in_ok-names.names.items ≡ replicate (slice_index (depths_of c.args.heads.now) c.args.i) None = c.in_ok-names.ensures ∙ ap (λ (n : ℕ). replicate n None) (sym (depth-at c.args.heads.now c.args.i none c.requires.here)) in
    record {
      aligned = ap (λ (ms : List (Option ℕ)). all_aligned_at (sequents_read c.args.heap.now c.args.heads.now) c.args.maps.now c.args.i c.args.pairs.now (Some ms)) made;
      count = ap length made ∙ repeated-count (slice_index (depths_of c.args.heads.now) c.args.i) None;
      below = λ d w. subst (AreBelow d) (sym made) (every-repeated (λ (m : Option ℕ). IfSome m (λ z. z < d)) (slice_index (depths_of c.args.heads.now) c.args.i) None tt);
      variables = refl;
      grows = grows-refl c.args.heap.now [];
    }

pub align_at-requires-clause-sequents : goal.align_at-requires-clause-sequents
align_at-requires-clause-sequents c = sequents-kept c.args.heap.now c.loop-k.heap c.is_sound.ensures c.loop-k.invariant.grows c.args.heads.now c.requires.sequents

pub align_at-requires-clause-pair : goal.align_at-requires-clause-pair
align_at-requires-clause-pair c = every-at (λ (p : Pair). p.left_head < p.right_head) c.args.pairs.now c.loop-k.k no_pair c.loop-k-test.true c.requires.pairs

pub returns-in_err-could-clause-grows : goal.returns-in_err-could-clause-grows
returns-in_err-could-clause-grows c = grows-trans c.args.heap.now c.loop-k.heap c.align_at.new.heap [] [] [] c.loop-k.invariant.grows c.align_at.ensures.grows

pub returns-then-not-could-clause-grows : goal.returns-then-not-could-clause-grows
returns-then-not-could-clause-grows c = grows-trans c.args.heap.now c.loop-k.heap c.align_at.new.heap [] [] [] c.loop-k.invariant.grows c.align_at.ensures.grows

pub returns-then-not-could-clause-names : goal.returns-then-not-could-clause-names
returns-then-not-could-clause-names c =
    let g = c.args.heap.now in
    let cs = sequents_read c.args.heap.now c.args.heads.now in
    let same = sequents-stay c.args.heap.now c.loop-k.heap c.is_sound.ensures c.loop-k.invariant.grows c.args.heads.now c.requires.sequents in
    let refused : None ≡ aligned_at (sequents_read c.args.heap.now c.args.heads.now) c.args.maps.now c.args.i (get_or c.args.pairs.now c.loop-k.k no_pair) (Some c.loop-k.names.items) =
    sym (ap (λ (b : Bool). cond b (Some c.align_at.new.names.items) None) c.if-not-could.true) ∙ c.in_ok-could.ensures.aligned
    ∙ ap (λ (xs : List Constraint). aligned_at xs c.args.maps.now c.args.i (get_or c.args.pairs.now c.loop-k.k no_pair) (Some c.loop-k.names.items)) same in
    sym (all_at-next cs c.args.maps.now c.args.i c.loop-k.k c.args.pairs.now no_pair (Some c.loop-k.names.items) None c.loop-k-test.true refused ∙ all_at-none cs c.args.maps.now c.args.i (drop (suc c.loop-k.k) c.args.pairs.now))
    ∙ c.loop-k.invariant.aligned
    ∙ sym (filtered cs c.args.maps.now c.args.i c.args.pairs.now (Some (replicate (slice_index (depths_of c.args.heads.now) c.args.i) None)))

pub loop-k-preserved : goal.loop-k-preserved
loop-k-preserved c =
    let cs = sequents_read c.args.heap.now c.args.heads.now in
    let i = c.loop-k.invariant in
    let same = sequents-stay c.args.heap.now c.loop-k.heap c.is_sound.ensures i.grows c.args.heads.now c.requires.sequents in
    let got : Some c.align_at.new.names.items ≡ aligned_at (sequents_read c.args.heap.now c.args.heads.now) c.args.maps.now c.args.i (get_or c.args.pairs.now c.loop-k.k no_pair) (Some c.loop-k.names.items) =
    sym (ap (λ (b : Bool). cond b (Some c.align_at.new.names.items) None) c.if-not-could.false) ∙ c.in_ok-could.ensures.aligned
    ∙ ap (λ (xs : List Constraint). aligned_at xs c.args.maps.now c.args.i (get_or c.args.pairs.now c.loop-k.k no_pair) (Some c.loop-k.names.items)) same in
    record {
      aligned = subst (λ (j : ℕ). all_aligned_at cs c.args.maps.now c.args.i (drop j c.args.pairs.now) (Some c.align_at.new.names.items) ≡ all_aligned_at cs c.args.maps.now c.args.i c.args.pairs.now (Some (replicate (slice_index (depths_of c.args.heads.now) c.args.i) None)))
          (let up : suc c.loop-k.k ≡ c.loop-k.k + 1 = omega arith in up)
          (sym (all_at-next cs c.args.maps.now c.args.i c.loop-k.k c.args.pairs.now no_pair (Some c.loop-k.names.items) (Some c.align_at.new.names.items) c.loop-k-test.true got) ∙ i.aligned);
      count = c.align_at.ensures.count ∙ i.count;
      below = λ d w. c.align_at.ensures.below d w (i.below d w);
      variables = c.align_at.ensures.variables ∙ i.variables;
      grows = grows-trans c.args.heap.now c.loop-k.heap c.align_at.new.heap [] [] [] i.grows c.align_at.ensures.grows;
    }

pub returns-clause-names : goal.returns-clause-names
returns-clause-names c =
    let cs = sequents_read c.args.heap.now c.args.heads.now in
    sym (ap (λ (ps : List Pair). all_aligned_at cs c.args.maps.now c.args.i ps (Some c.loop-k.names.items)) (drop-end c.args.pairs.now c.loop-k.k (omega arith)))
    ∙ c.loop-k.invariant.aligned
    ∙ sym (filtered cs c.args.maps.now c.args.i c.args.pairs.now (Some (replicate (slice_index (depths_of c.args.heads.now) c.args.i) None)))

pub returns-in_err-names-clause-grows : goal.returns-in_err-names-clause-grows
returns-in_err-names-clause-grows c = grows-refl c.args.heap.now []
