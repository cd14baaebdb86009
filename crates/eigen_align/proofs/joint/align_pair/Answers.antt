use Rattle.std.proofs.Common.{◌∙◌, ℕ, List, [], Some, None, IfSome, length, get_or, option_map, option_and_then, sym, subst, ap, arith}
use Rattle.level_terms.proofs.GrowthLemmas.{grows-trans}
use Rattle.ref_terms.specs.search.Branch.{Constraint}
use Rattle.ref_terms.specs.search.Joint.{spine_at, identified, paired_spines}
use Rattle.beta_fragment.specs.Names.{AllBelow}
use Rattle.eigen_align.specs.declared.sequent.Sequent.{Sequent}
use Rattle.eigen_align.specs.Sequents.{IsSequent}
use Rattle.eigen_align.specs.inside.Spines.{spine_read}
use Rattle.eigen_align.proofs.JointLemmas.{every-at, goal-valid, sequent-stays, depth-at, map-got, aligned-by}
use Rattle.eigen_align.proofs.joint.align_pair.Goals as goal

-- what an index past the end would give
abbrev none : Sequent
none = record { depth = 0; goal = record { index = 0 }; context = None }

pub spine_at-requires : goal.spine_at-requires
spine_at-requires c =
    let few = c.requires.few in
    let left = c.requires.left in
    (every-at (IsSequent c.args.heap.now) c.args.heads.now c.args.pair.left_head none (omega (arith, few, left)) c.requires.sequents).0

pub spine_at-requires-2 : goal.spine_at-requires-2
spine_at-requires-2 c = goal-valid c.args.heap.now c.spine_at.new.heap c.is_sound.ensures c.spine_at.ensures.grows c.args.heads.now c.args.pair.right_head none c.requires.sequents c.requires.right

pub returns-in_err-right-clause-grows : goal.returns-in_err-right-clause-grows
returns-in_err-right-clause-grows c = grows-trans c.args.heap.now c.spine_at.new.heap c.spine_at-2.new.heap [] [] [] c.spine_at.ensures.grows c.spine_at-2.ensures.grows

pub identify_spines-could-requires-clause-left : goal.identify_spines-could-requires-clause-left
identify_spines-could-requires-clause-left c =
    let few = c.requires.few in
    let left = c.requires.left in
    subst (λ (n : ℕ). IfSome c.in_ok-left.left (λ s. AllBelow s.names.items n))
    (sym (ap length (c.as_slice.ensures ∙ map-got c.args.maps.now c.args.pair.left_head c.index-maps-pair.result c.requires.left c.index-maps-pair.is) ∙ c.requires.counts c.args.pair.left_head c.requires.left
    ∙ depth-at c.args.heads.now c.args.pair.left_head none (omega (arith, few, left)))) c.in_ok-left.ensures.below

pub identify_spines-could-requires-clause-right : goal.identify_spines-could-requires-clause-right
identify_spines-could-requires-clause-right c =
    subst (λ (n : ℕ). IfSome c.in_ok-right.right (λ s. AllBelow s.names.items n)) (sym (c.requires.own ∙ depth-at c.args.heads.now c.args.pair.right_head none c.requires.right)) c.in_ok-right.ensures.below

pub returns-clause-aligned : goal.returns-clause-aligned
returns-clause-aligned c =
    let few = c.requires.few in
    let left = c.requires.left in
    let right = c.requires.right in
    let valid = (every-at (IsSequent c.args.heap.now) c.args.heads.now c.args.pair.right_head none c.requires.right c.requires.sequents).0 in
    c.identify_spines-could.ensures.identified
    ∙ ap (λ (m : List ℕ). option_and_then (λ ps. identified m ps (Some c.args.names.now.items)) (paired_spines (option_map spine_read c.in_ok-left.left) (option_map spine_read c.in_ok-right.right)))
    (c.as_slice.ensures ∙ map-got c.args.maps.now c.args.pair.left_head c.index-maps-pair.result c.requires.left c.index-maps-pair.is)
    ∙ sym (aligned-by c.args.heap.now c.args.heads.now c.args.maps.now c.args.pair none none (option_map spine_read c.in_ok-left.left) (option_map spine_read c.in_ok-right.right) (Some c.args.names.now.items) (omega (arith, few, left)) right
    c.in_ok-left.ensures.spine
    (c.in_ok-right.ensures.spine ∙ ap (λ (s : Constraint). spine_at c.args.pair.right_arg (Some s)) (sequent-stays c.args.heap.now c.spine_at.new.heap c.is_sound.ensures c.spine_at.ensures.grows (get_or c.args.heads.now c.args.pair.right_head none) valid)))

pub returns-clause-below : goal.returns-clause-below
returns-clause-below c = λ d b w. c.identify_spines-could.ensures.below d
    (subst (λ (ns : List ℕ). AllBelow ns d) (sym (c.as_slice.ensures ∙ map-got c.args.maps.now c.args.pair.left_head c.index-maps-pair.result c.requires.left c.index-maps-pair.is)) (b c.args.pair.left_head c.requires.left)) w

pub returns-clause-grows : goal.returns-clause-grows
returns-clause-grows c = grows-trans c.args.heap.now c.spine_at.new.heap c.spine_at-2.new.heap [] [] [] c.spine_at.ensures.grows c.spine_at-2.ensures.grows
