use Rattle.std.proofs.Common.{[], ◌++◌, ◌∷◌, Some, map, sym}
use Rattle.level_terms.specs.Reading.{read}
use Rattle.level_terms.proofs.GrowthLemmas.{grows-refl}
use Rattle.ref_terms.specs.unification.Closing.{names_below}
use Rattle.ref_terms.specs.unification.Pattern.{of_name}
use Rattle.ref_terms.specs.unification.Rules.{bind_to}
use Rattle.ref_terms.specs.unification.Shape.{shape}
use Rattle.beta_fragment.specs.Names.{names}
use Rattle.pattern_unify.specs.inside.Equations.{equation_at, equations_at, problem_at}
use Rattle.pattern_unify.specs.inside.Sides.{shape_at}
use Rattle.pattern_unify.specs.inside.Turns.{rule_at}
use Rattle.pattern_unify.proofs.EquationLemmas.{equation_valid-kept, equations_valid-kept}
use Rattle.pattern_unify.proofs.KeptLemmas.{frozen-grown, frozen-after, grows-after}
use Rattle.pattern_unify.proofs.OwnLemmas.{own-right}
use Rattle.pattern_unify.proofs.TurnLemmas.{side-kept, shape-kept, seen-after, rule-seen}
use Rattle.pattern_unify.proofs.turning.after_left.Goals as goal

pub returns-in-Some-clause-turn : goal.returns-in-Some-clause-turn
returns-in-Some-clause-turn c =
    seen-after c.args.heap.now c.args.heap.now c.against_in_scope.new.heap (λ bs. rule_at c.args.mark.index c.args.heap.now c.args.e c.args.work.now.items (shape_at c.args.heap.now c.args.left.now) (shape c.args.mark.index (read c.args.heap.now c.args.e.right.index names)) bs)
    (λ bs. bind_to c.args.mark.index c.in-Some.w.index (Some (map of_name (names_below c.args.e.depth))) (read c.args.heap.now c.args.e.left.index names) (equation_at c.args.heap.now c.args.e) (equations_at c.args.heap.now c.args.work.now.items) (problem_at c.args.heap.now (c.args.work.now.items ++ c.args.e ∷ []) bs))
    c.against_in_scope.new.work.items c.against_in_scope.result c.is_sound.ensures (grows-refl c.args.heap.now [])
    (λ bs. own-right c.args.heap.now c.args.mark.index c.args.e c.args.work.now.items c.args.left.now c.in-Some.w bs c.is_sound.ensures c.in-Some.ensures.rigid c.in-Some.ensures.own)
    c.against_in_scope.ensures.turn

pub returns-in_err-right-in-None-clause-frozen : goal.returns-in_err-right-in-None-clause-frozen
returns-in_err-right-in-None-clause-frozen c = frozen-grown c.args.heap.now c.side_of.new.heap c.args.mark.index c.side_of.ensures.grows

pub by_sides-requires-clause-left : goal.by_sides-requires-clause-left
by_sides-requires-clause-left c = side-kept c.args.heap.now c.side_of.new.heap c.args.mark.index c.args.e.depth c.args.left.now c.is_sound.ensures c.side_of.ensures.grows c.side_of.ensures.variables c.requires.left

pub by_sides-requires-clause-equation : goal.by_sides-requires-clause-equation
by_sides-requires-clause-equation c = equation_valid-kept c.args.heap.now c.side_of.new.heap [] [] c.args.e c.is_sound.ensures c.side_of.ensures.grows c.requires.equation

pub by_sides-requires-clause-valid : goal.by_sides-requires-clause-valid
by_sides-requires-clause-valid c = equations_valid-kept c.args.heap.now c.side_of.new.heap [] [] c.args.work.now.items c.is_sound.ensures c.side_of.ensures.grows c.requires.valid

pub returns-in_ok-right-in-None-clause-turn : goal.returns-in_ok-right-in-None-clause-turn
returns-in_ok-right-in-None-clause-turn c =
    seen-after c.args.heap.now c.side_of.new.heap c.by_sides.new.heap (λ bs. rule_at c.args.mark.index c.args.heap.now c.args.e c.args.work.now.items (shape_at c.args.heap.now c.args.left.now) (shape c.args.mark.index (read c.args.heap.now c.args.e.right.index names)) bs)
    (λ bs. rule_at c.args.mark.index c.side_of.new.heap c.args.e c.args.work.now.items (shape_at c.side_of.new.heap c.args.left.now) (shape_at c.side_of.new.heap c.in_ok-right-in-None.right) bs)
    c.by_sides.new.work.items c.by_sides.result c.is_sound.ensures c.side_of.ensures.grows
    (λ bs. rule-seen c.args.heap.now c.side_of.new.heap c.args.mark.index c.args.e c.args.work.now.items (shape_at c.args.heap.now c.args.left.now) (shape c.args.mark.index (read c.args.heap.now c.args.e.right.index names)) (shape_at c.side_of.new.heap c.args.left.now) (shape_at c.side_of.new.heap c.in_ok-right-in-None.right) bs
    c.is_sound.ensures c.side_of.ensures.grows c.side_of.ensures.variables c.requires.equation c.requires.valid (sym (shape-kept c.args.heap.now c.side_of.new.heap c.args.mark.index c.args.e.depth c.args.left.now c.is_sound.ensures c.side_of.ensures.grows c.requires.left)) c.in_ok-right-in-None.ensures.shape)
    c.by_sides.ensures.turn

pub returns-in_ok-right-in-None-clause-frozen : goal.returns-in_ok-right-in-None-clause-frozen
returns-in_ok-right-in-None-clause-frozen c = frozen-after c.args.heap.now c.side_of.new.heap c.by_sides.new.heap c.args.mark.index c.side_of.ensures.grows c.by_sides.ensures.frozen

pub returns-in_ok-right-in-None-clause-grows : goal.returns-in_ok-right-in-None-clause-grows
returns-in_ok-right-in-None-clause-grows c =
    grows-after c.args.heap.now c.side_of.new.heap c.by_sides.new.heap c.args.trail.now.entries c.by_sides.new.trail.entries c.side_of.ensures.grows
    c.by_sides.ensures.grows
