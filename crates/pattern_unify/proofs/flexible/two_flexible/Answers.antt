use Rattle.std.proofs.Common.{[], List, Option, map, option_map, sym, ap, ap₂, ◌∙◌}
use Rattle.level_terms.proofs.GrowthLemmas.{grows-trans, grows-notes}
use Rattle.ref_terms.specs.unification.Pattern.{SpineName, of_name, pattern_of}
use Rattle.ref_terms.specs.unification.Rules.{flex_flex}
use Rattle.beta_fragment.specs.HeadForm.{all_read}
use Rattle.beta_fragment.proofs.HeadLemmas.{valid-grown_all, read-grown_all}
use Rattle.pattern_unify.proofs.EquationLemmas.{equation_valid-kept, equations_valid-kept}
use Rattle.pattern_unify.proofs.KeptLemmas.{open-kept, frozen-grown, frozen-after, grows-after}
use Rattle.pattern_unify.proofs.NamedSpines.{pattern-distinct}
use Rattle.pattern_unify.proofs.FlexibleTurns.{turns-later}
use Rattle.pattern_unify.proofs.flexible.two_flexible.Goals as goal

pub returns-in_err-ms-clause-frozen : goal.returns-in_err-ms-clause-frozen
returns-in_err-ms-clause-frozen c = frozen-grown c.args.heap.now c.pattern_names.new.heap c.args.mark.index c.pattern_names.ensures.grows

pub pattern_names-requires-2 : goal.pattern_names-requires-2
pattern_names-requires-2 c = valid-grown_all c.args.heap.now c.pattern_names.new.heap c.args.e.depth c.is_sound.ensures c.pattern_names.ensures.grows c.args.ys.now c.requires.right_spine

pub returns-in_err-ns-clause-frozen : goal.returns-in_err-ns-clause-frozen
returns-in_err-ns-clause-frozen c =
    frozen-grown c.args.heap.now c.pattern_names-2.new.heap c.args.mark.index
    (grows-trans c.args.heap.now c.pattern_names.new.heap c.pattern_names-2.new.heap [] [] [] c.pattern_names.ensures.grows c.pattern_names-2.ensures.grows)

pub returns-in_err-ns-clause-grows : goal.returns-in_err-ns-clause-grows
returns-in_err-ns-clause-grows c =
    grows-notes c.args.heap.now c.pattern_names-2.new.heap c.args.trail.now.entries
    (grows-trans c.args.heap.now c.pattern_names.new.heap c.pattern_names-2.new.heap [] [] [] c.pattern_names.ensures.grows c.pattern_names-2.ensures.grows)

pub two_spines-requires-clause-left : goal.two_spines-requires-clause-left
two_spines-requires-clause-left c =
    open-kept c.args.heap.now c.pattern_names-2.new.heap
    c.args.v.index
    (grows-trans c.args.heap.now c.pattern_names.new.heap c.pattern_names-2.new.heap [] [] [] c.pattern_names.ensures.grows c.pattern_names-2.ensures.grows) (c.pattern_names-2.ensures.variables ∙ c.pattern_names.ensures.variables) c.requires.left

pub two_spines-requires-clause-right : goal.two_spines-requires-clause-right
two_spines-requires-clause-right c =
    open-kept c.args.heap.now c.pattern_names-2.new.heap
    c.args.w.index
    (grows-trans c.args.heap.now c.pattern_names.new.heap c.pattern_names-2.new.heap [] [] [] c.pattern_names.ensures.grows c.pattern_names-2.ensures.grows) (c.pattern_names-2.ensures.variables ∙ c.pattern_names.ensures.variables) c.requires.right

pub two_spines-requires-clause-left_distinct : goal.two_spines-requires-clause-left_distinct
two_spines-requires-clause-left_distinct c = pattern-distinct c.in_ok-ms.ms (λ ns. ns.items) (all_read c.args.heap.now c.args.xs.now) c.in_ok-ms.ensures.pattern

pub two_spines-requires-clause-right_distinct : goal.two_spines-requires-clause-right_distinct
two_spines-requires-clause-right_distinct c = pattern-distinct c.in_ok-ns.ns (λ ns. ns.items) (all_read c.pattern_names.new.heap c.args.ys.now) c.in_ok-ns.ensures.pattern

pub two_spines-requires-clause-equation : goal.two_spines-requires-clause-equation
two_spines-requires-clause-equation c =
    equation_valid-kept c.args.heap.now c.pattern_names-2.new.heap [] [] c.args.e
    c.is_sound.ensures
    (grows-trans c.args.heap.now c.pattern_names.new.heap c.pattern_names-2.new.heap [] [] [] c.pattern_names.ensures.grows c.pattern_names-2.ensures.grows) c.requires.equation

pub two_spines-requires-clause-valid : goal.two_spines-requires-clause-valid
two_spines-requires-clause-valid c =
    equations_valid-kept c.args.heap.now c.pattern_names-2.new.heap [] [] c.args.work.now.items
    c.is_sound.ensures
    (grows-trans c.args.heap.now c.pattern_names.new.heap c.pattern_names-2.new.heap [] [] [] c.pattern_names.ensures.grows c.pattern_names-2.ensures.grows) c.requires.valid

pub returns-clause-turn : goal.returns-clause-turn
returns-clause-turn c =
    let left = sym c.in_ok-ms.ensures.pattern in
    let right = sym (c.in_ok-ns.ensures.pattern ∙ ap pattern_of (read-grown_all c.args.heap.now c.pattern_names.new.heap c.args.e.depth c.is_sound.ensures c.pattern_names.ensures.grows c.args.ys.now c.requires.right_spine)) in
    turns-later (λ u. flex_flex c.args.mark.index c.args.v.index c.args.w.index (option_map (λ ns. map of_name ns.items) c.in_ok-ms.ms) (option_map (λ ns. map of_name ns.items) c.in_ok-ns.ns))
    (λ u. flex_flex c.args.mark.index c.args.v.index c.args.w.index (pattern_of (all_read c.args.heap.now c.args.xs.now)) (pattern_of (all_read c.args.heap.now c.args.ys.now)))
    c.args.heap.now c.pattern_names-2.new.heap c.two_spines.new.heap c.args.e.left.index c.args.e.depth c.args.e c.args.work.now.items c.two_spines.new.work.items c.two_spines.result c.is_sound.ensures
    (grows-trans c.args.heap.now c.pattern_names.new.heap c.pattern_names-2.new.heap [] [] [] c.pattern_names.ensures.grows c.pattern_names-2.ensures.grows)
    (c.pattern_names-2.ensures.variables ∙ c.pattern_names.ensures.variables) c.requires.equation.0 c.requires.equation c.requires.valid
    (λ d es p. ap₂ (λ (o q : Option (List SpineName)). flex_flex c.args.mark.index c.args.v.index c.args.w.index o q d es p) left right)
    c.two_spines.ensures.turn

pub returns-clause-frozen : goal.returns-clause-frozen
returns-clause-frozen c =
    frozen-after c.args.heap.now c.pattern_names-2.new.heap c.two_spines.new.heap c.args.mark.index
    (grows-trans c.args.heap.now c.pattern_names.new.heap c.pattern_names-2.new.heap [] [] [] c.pattern_names.ensures.grows c.pattern_names-2.ensures.grows)
    c.two_spines.ensures.frozen

pub returns-clause-grows : goal.returns-clause-grows
returns-clause-grows c =
    grows-after c.args.heap.now c.pattern_names-2.new.heap c.two_spines.new.heap c.args.trail.now.entries c.two_spines.new.trail.entries (grows-trans c.args.heap.now c.pattern_names.new.heap c.pattern_names-2.new.heap [] [] [] c.pattern_names.ensures.grows c.pattern_names-2.ensures.grows)
    c.two_spines.ensures.grows
