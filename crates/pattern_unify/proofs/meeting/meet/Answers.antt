use Rattle.std.proofs.Common.{◌≡◌, ℕ, List, ap, ap₂, ◌∙◌, map, length}
use Rattle.std.proofs.lemmas.Result.{on_ok_weaker}
use Rattle.level_terms.proofs.GrowthLemmas.{grows-refl, grows-trans}
use Rattle.ref_terms.specs.unification.Closing.{keeping}
use Rattle.ref_terms.specs.unification.Pattern.{of_name}
use Rattle.ref_terms.specs.unification.Positions.{shared, positions_of}
use Rattle.pattern_unify.proofs.MeetLemmas.{two-bound}
use Rattle.pattern_unify.proofs.meeting.meet.Goals as goal

pub returns-in_err-kept-clause-grows : goal.returns-in_err-kept-clause-grows
returns-in_err-kept-clause-grows c = grows-refl c.args.heap.now c.args.trail.now.entries

pub returns-in_err-positions-clause-grows : goal.returns-in_err-positions-clause-grows
returns-in_err-positions-clause-grows c = grows-refl c.args.heap.now c.args.trail.now.entries

pub returns-clause-bound : goal.returns-clause-bound
returns-clause-bound c =
    let left : List ℕ = shared 0 (map of_name c.args.xs.now) (map of_name c.args.ys.now) in
    let right : List ℕ = positions_of 0 (map of_name c.args.xs.now) (map of_name c.args.ys.now) in
    let lefts : c.deref.result.now ≡ left = c.deref.ensures.value ∙ c.in_ok-kept.ensures.positions in
    let rights : c.deref-2.result.now ≡ right = c.deref-2.ensures.value ∙ c.in_ok-positions.ensures.positions in
    on_ok_weaker c.keep_over.result
    (two-bound c.args.heap.now c.keep_over_new.new.heap c.keep_over.new.heap c.args.trail.now.entries c.keep_over_new.new.trail.entries c.args.v.index c.args.w.index
    (keeping (length c.args.xs.now) c.deref.result.now (length c.args.heap.now.depths)) (keeping (length c.args.xs.now) left (length c.args.heap.now.depths))
    (keeping (length c.args.ys.now) c.deref-2.result.now c.in_ok-other.other.index) (keeping (length c.args.ys.now) right (length c.args.heap.now.depths))
    (ap (λ (ks : List ℕ). keeping (length c.args.xs.now) ks (length c.args.heap.now.depths)) lefts) (ap₂ (keeping (length c.args.ys.now)) rights c.in_ok-other.ensures.number)
    c.keep_over_new.ensures.grows c.in_ok-other.ensures.bound)
    c.keep_over.ensures.bound

pub returns-clause-grows : goal.returns-clause-grows
returns-clause-grows c =
    grows-trans c.args.heap.now c.keep_over_new.new.heap c.keep_over.new.heap c.args.trail.now.entries c.keep_over_new.new.trail.entries c.keep_over.new.trail.entries
    c.keep_over_new.ensures.grows c.keep_over.ensures.grows
