use Rattle.std.proofs.Common.{List, ℕ, Some, map, option_map, sym, ap, ◌∙◌}
use Rattle.level_terms.proofs.GrowthLemmas.{grows-refl}
use Rattle.ref_terms.specs.unification.Pattern.{of_name}
use Rattle.pattern_unify.proofs.FlexibleTurns.{turns-paired}
use Rattle.pattern_unify.proofs.flexible.two_spines.Goals as goal

pub returns-then-v-w-clause-grows : goal.returns-then-v-w-clause-grows
returns-then-v-w-clause-grows c = grows-refl c.args.heap.now c.args.trail.now.entries

pub returns-then-v-w-2-clause-grows : goal.returns-then-v-w-2-clause-grows
returns-then-v-w-2-clause-grows c = grows-refl c.args.heap.now c.args.trail.now.entries

pub returns-clause-turn : goal.returns-clause-turn
returns-clause-turn c =
    turns-paired c.args.heap.now c.two_patterns.new.heap c.args.mark.index c.args.v.index c.args.w.index (option_map (λ ns. map of_name ns.items) c.args.left) (option_map (λ ns. map of_name ns.items) c.args.right)
    (map of_name c.as_slice-2.result.now) (map of_name c.as_slice-3.result.now) c.args.e c.args.work.now.items c.as_slice.result.now c.two_patterns.result
    (ap (option_map (λ ns. map of_name ns.items)) c.in-Some.is ∙ ap (λ (ns : List ℕ). Some (map of_name ns)) (sym c.as_slice-2.ensures.value))
    (ap (option_map (λ ns. map of_name ns.items)) c.in-Some-right.is ∙ ap (λ (ns : List ℕ). Some (map of_name ns)) (sym c.as_slice-3.ensures.value))
    c.as_slice.ensures.value c.two_patterns.ensures.turn
