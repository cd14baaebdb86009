use Rattle.std.proofs.Common.{◌≡◌, ◌∙◌, ◌+◌, ◌∷◌, ℕ, suc, nat_eq, List, [], Option, Some, None, IfSome, filter, replicate, length, drop, get_or, slice_index, option_map, refl, sym, subst, ap, ap₂, arith, length-append}
use Rattle.std.proofs.lemmas.List.{length-map}
use Rattle.level_terms.proofs.GrowthLemmas.{grows-refl, grows-trans}
use Rattle.ref_terms.specs.declared.pair.Pair.{Pair}
use Rattle.ref_terms.specs.search.Branch.{Constraint}
use Rattle.ref_terms.specs.search.Joint.{completed, with_head, joined, all_aligned, joint}
use Rattle.beta_fragment.specs.Names.{AllBelow}
use Rattle.eigen_align.specs.Counts.{depths_of, HaveCounts, HaveBelow, AreBelow}
use Rattle.eigen_align.specs.Sequents.{sequent_read, sequents_read, joint_read}
use Rattle.eigen_align.specs.declared.sequent.Sequent.{Sequent}
use Rattle.eigen_align.proofs.IdentifiedLemmas.{drop-end}
use Rattle.eigen_align.proofs.JointLemmas.{joint-first, joined-next, sequents-stay, sequents-kept, counts-more, below-more, completed-count, completed-below, maps-more, depth-more, first-counts, first-below}
use Rattle.eigen_align.proofs.joint.joint_names.Goals as goal

-- what an index past the end would give
abbrev none : Sequent
none = record { depth = 0; goal = record { index = 0 }; context = None }

pub loop-i-init : goal.loop-i-init
loop-i-init c = record {
  joined = joint-first c.args.heap.now c.args.heads.now c.args.pairs.now none c.in_ok-joint.joint c.requires.some c.in_ok-joint.ensures.depth c.in_ok-joint.ensures.maps;
  all = ap length c.in_ok-joint.ensures.maps;
  counts = first-counts c.args.heads.now none c.in_ok-joint.joint.maps.items c.requires.some c.in_ok-joint.ensures.maps;
  below = first-below c.in_ok-joint.joint.depth (get_or c.args.heads.now 0 none).depth c.in_ok-joint.joint.maps.items c.in_ok-joint.ensures.depth c.in_ok-joint.ensures.maps;
  variables = refl;
  grows = grows-refl c.args.heap.now [];
}

pub own_names-requires-clause-sequents : goal.own_names-requires-clause-sequents
own_names-requires-clause-sequents c = sequents-kept c.args.heap.now c.loop-i.heap c.is_sound.ensures c.loop-i.invariant.grows c.args.heads.now c.requires.sequents

pub own_names-requires-clause-maps : goal.own_names-requires-clause-maps
own_names-requires-clause-maps c = ap length c.as_slice.ensures.value ∙ c.loop-i.invariant.all

pub own_names-requires-clause-counts : goal.own_names-requires-clause-counts
own_names-requires-clause-counts c = subst (HaveCounts c.args.heads.now) (sym c.as_slice.ensures.value) c.loop-i.invariant.counts

pub returns-in_err-names-clause-grows : goal.returns-in_err-names-clause-grows
returns-in_err-names-clause-grows c = grows-trans c.args.heap.now c.loop-i.heap c.own_names.new.heap [] [] [] c.loop-i.invariant.grows c.own_names.ensures.grows

pub returns-in_err-add-in-Some-clause-grows : goal.returns-in_err-add-in-Some-clause-grows
returns-in_err-add-in-Some-clause-grows c = grows-trans c.args.heap.now c.loop-i.heap c.own_names.new.heap [] [] [] c.loop-i.invariant.grows c.own_names.ensures.grows

pub returns-in-None-clause-joint : goal.returns-in-None-clause-joint
returns-in-None-clause-joint c =
    let g = c.args.heap.now in
    let fs = filter (λ (p : Pair). nat_eq p.right_head c.loop-i.i) c.args.pairs.now in
    let start : Option (List (Option ℕ)) = Some (replicate (slice_index (depths_of c.args.heads.now) c.loop-i.i) None) in
    let same = sequents-stay c.args.heap.now c.loop-i.heap c.is_sound.ensures c.loop-i.invariant.grows c.args.heads.now c.requires.sequents in
    let got : None ≡ all_aligned (sequents_read c.args.heap.now c.args.heads.now) c.loop-i.joint.maps.items fs start =
    ap (option_map (λ ms. ms.items)) (sym c.in-None.is) ∙ c.in_ok-names.ensures.names
    ∙ ap₂ (λ (xs : List Constraint) (ms : List (List ℕ)). all_aligned xs ms fs start) same c.as_slice.ensures.value in
    sym (joined-next g c.args.heads.now c.args.pairs.now c.loop-i.i none c.loop-i.joint None c.loop-i-test.true got) ∙ c.loop-i.invariant.joined

pub loop-i-preserved : goal.loop-i-preserved
loop-i-preserved c =
    let g = c.args.heap.now in
    let i = c.loop-i.invariant in
    let ms = c.in-Some.names.items in
    let fs = filter (λ (p : Pair). nat_eq p.right_head c.loop-i.i) c.args.pairs.now in
    let start : Option (List (Option ℕ)) = Some (replicate (slice_index (depths_of c.args.heads.now) c.loop-i.i) None) in
    let same = sequents-stay c.args.heap.now c.loop-i.heap c.is_sound.ensures i.grows c.args.heads.now c.requires.sequents in
    let got : Some c.in-Some.names.items ≡ all_aligned (sequents_read c.args.heap.now c.args.heads.now) c.loop-i.joint.maps.items fs start =
    ap (option_map (λ ns. ns.items)) (sym c.in-Some.is) ∙ c.in_ok-names.ensures.names
    ∙ ap₂ (λ (xs : List Constraint) (ns : List (List ℕ)). all_aligned xs ns fs start) same c.as_slice.ensures.value in
    let after : joint_read c.add.new.self ≡ with_head (joint_read c.loop-i.joint) c.in-Some.names.items = c.in_ok-add-in-Some.ensures ∙ ap (with_head (joint_read c.loop-i.joint)) c.as_slice-in-Some.ensures.value in
    let count : length c.in-Some.names.items ≡ slice_index (depths_of c.args.heads.now) c.loop-i.i =
    subst (λ (o : Option _). IfSome o (λ ns. length ns.items ≡ slice_index (depths_of c.args.heads.now) c.loop-i.i)) c.in-Some.is c.in_ok-names.ensures.count in
    let low : AreBelow c.loop-i.joint.depth c.in-Some.names.items =
    subst (λ (o : Option _). IfSome o (λ ns. (d : ℕ) → HaveBelow d c.as_slice.result.now → AreBelow d ns.items)) c.in-Some.is c.in_ok-names.ensures.below c.loop-i.joint.depth (subst (HaveBelow c.loop-i.joint.depth) (sym c.as_slice.ensures.value) i.below) in
    let more = maps-more c.loop-i.joint c.add.new.self c.in-Some.names.items after in
    let deeper = depth-more c.loop-i.joint c.add.new.self c.in-Some.names.items after in
    let long = ap length more in
    let sum = length-append c.loop-i.joint.maps.items (completed c.loop-i.joint.depth c.in-Some.names.items ∷ []) in
    record {
      joined = subst (λ (j : ℕ). joined (sequents_read g c.args.heads.now) c.args.pairs.now j (drop j (sequents_read g c.args.heads.now)) (joint_read c.add.new.self) ≡ joint c.args.pairs.now (sequents_read g c.args.heads.now))
          (let up : suc c.loop-i.i ≡ c.loop-i.i + 1 = omega arith in up) (ap (joined (sequents_read g c.args.heads.now) c.args.pairs.now (suc c.loop-i.i) (drop (suc c.loop-i.i) (sequents_read g c.args.heads.now))) after
          ∙ sym (joined-next g c.args.heads.now c.args.pairs.now c.loop-i.i none c.loop-i.joint (Some ms) c.loop-i-test.true got) ∙ i.joined);
      all = omega (arith, long, sum, i.all);
      counts = counts-more c.args.heads.now c.loop-i.joint.maps.items c.add.new.self.maps.items (completed c.loop-i.joint.depth ms) i.counts more (completed-count c.loop-i.joint.depth ms ∙ count ∙ ap (slice_index (depths_of c.args.heads.now)) (sym i.all));
      below = below-more c.loop-i.joint.depth c.add.new.self.depth c.loop-i.joint.maps.items c.add.new.self.maps.items (completed c.loop-i.joint.depth ms) i.below (omega (arith, deeper)) more
          (subst (AllBelow (completed c.loop-i.joint.depth ms)) (sym deeper) (completed-below c.loop-i.joint.depth c.loop-i.joint.depth ms (omega arith) low));
      variables = c.own_names.ensures.variables ∙ i.variables;
      grows = grows-trans c.args.heap.now c.loop-i.heap c.own_names.new.heap [] [] [] i.grows c.own_names.ensures.grows;
    }

pub returns-clause-joint : goal.returns-clause-joint
returns-clause-joint c =
    let g = c.args.heap.now in
    let cs = sequents_read c.args.heap.now c.args.heads.now in
    let count : length (sequents_read c.args.heap.now c.args.heads.now) ≡ length c.args.heads.now = length-map c.args.heads.now (sequent_read c.args.heap.now) in
    sym (ap (λ (xs : List Constraint). joined cs c.args.pairs.now c.loop-i.i xs (joint_read c.loop-i.joint)) (drop-end cs c.loop-i.i (omega (arith, count)))) ∙ c.loop-i.invariant.joined

pub returns-clause-fits : goal.returns-clause-fits
returns-clause-fits c =
    let all = c.loop-i.invariant.all in
    record { all = omega (arith, all, c.requires.some); counts = c.loop-i.invariant.counts; below = c.loop-i.invariant.below }

pub returns-in_err-joint-clause-grows : goal.returns-in_err-joint-clause-grows
returns-in_err-joint-clause-grows c = grows-refl c.args.heap.now []

pub returns-in-None-clause-grows : goal.returns-in-None-clause-grows
returns-in-None-clause-grows c = grows-trans c.args.heap.now c.loop-i.heap c.own_names.new.heap [] [] [] c.loop-i.invariant.grows c.own_names.ensures.grows
