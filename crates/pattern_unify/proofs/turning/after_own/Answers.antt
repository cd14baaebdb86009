use Rattle.std.proofs.Common.{[], ◌++◌, ◌∷◌, Some, map, sym}
use Rattle.level_terms.specs.Reading.{read}
use Rattle.level_terms.proofs.GrowthLemmas.{grows-refl}
use Rattle.ref_terms.specs.unification.Closing.{names_below}
use Rattle.ref_terms.specs.unification.Pattern.{of_name}
use Rattle.ref_terms.specs.unification.Rules.{bind_to}
use Rattle.ref_terms.specs.unification.Shape.{shape}
use Rattle.beta_fragment.specs.Names.{names}
use Rattle.pattern_unify.specs.inside.Equations.{equation_at, equations_at, problem_at}
use Rattle.pattern_unify.specs.inside.Sides.{shape_at}
use Rattle.pattern_unify.specs.inside.Turns.{rule_at}
use Rattle.pattern_unify.proofs.EquationLemmas.{equation_valid-kept, equations_valid-kept}
use Rattle.pattern_unify.proofs.KeptLemmas.{frozen-grown, frozen-after, grows-after}
use Rattle.pattern_unify.proofs.OwnLemmas.{own-left}
use Rattle.pattern_unify.proofs.TurnLemmas.{side-kept, shape-kept, seen-after, rule-seen}
use Rattle.pattern_unify.proofs.turning.after_own.Goals as goal

pub returns-then-is_rigid-clause-turn : goal.returns-then-is_rigid-clause-turn
returns-then-is_rigid-clause-turn c =
    seen-after c.args.heap.now c.args.heap.now c.against_in_scope.new.heap (λ bs. rule_at c.args.mark.index c.args.heap.now c.args.e c.args.work.now.items (shape c.args.mark.index (read c.args.heap.now c.args.e.left.index names)) (shape_at c.args.heap.now c.args.right.now) bs)
    (λ bs. bind_to c.args.mark.index c.args.v.index (Some (map of_name (names_below c.args.e.depth))) (read c.args.heap.now c.args.e.right.index names) (equation_at c.args.heap.now c.args.e) (equations_at c.args.heap.now c.args.work.now.items) (problem_at c.args.heap.now (c.args.work.now.items ++ c.args.e ∷ []) bs))
    c.against_in_scope.new.work.items c.against_in_scope.result c.is_sound.ensures (grows-refl c.args.heap.now [])
    (λ bs. own-left c.args.heap.now c.args.mark.index c.args.e c.args.work.now.items c.args.v c.args.right.now bs c.is_sound.ensures c.requires.own (c.is_rigid.ensures c.if-is_rigid.true))
    c.against_in_scope.ensures.turn

pub returns-in_err-left-clause-frozen : goal.returns-in_err-left-clause-frozen
returns-in_err-left-clause-frozen c = frozen-grown c.args.heap.now c.side_of.new.heap c.args.mark.index c.side_of.ensures.grows

pub by_sides-requires-clause-right : goal.by_sides-requires-clause-right
by_sides-requires-clause-right c = side-kept c.args.heap.now c.side_of.new.heap c.args.mark.index c.args.e.depth c.args.right.now c.is_sound.ensures c.side_of.ensures.grows c.side_of.ensures.variables c.requires.right

pub by_sides-requires-clause-equation : goal.by_sides-requires-clause-equation
by_sides-requires-clause-equation c = equation_valid-kept c.args.heap.now c.side_of.new.heap [] [] c.args.e c.is_sound.ensures c.side_of.ensures.grows c.requires.equation

pub by_sides-requires-clause-valid : goal.by_sides-requires-clause-valid
by_sides-requires-clause-valid c = equations_valid-kept c.args.heap.now c.side_of.new.heap [] [] c.args.work.now.items c.is_sound.ensures c.side_of.ensures.grows c.requires.valid

pub returns-clause-turn : goal.returns-clause-turn
returns-clause-turn c =
    seen-after c.args.heap.now c.side_of.new.heap c.by_sides.new.heap (λ bs. rule_at c.args.mark.index c.args.heap.now c.args.e c.args.work.now.items (shape c.args.mark.index (read c.args.heap.now c.args.e.left.index names)) (shape_at c.args.heap.now c.args.right.now) bs)
    (λ bs. rule_at c.args.mark.index c.side_of.new.heap c.args.e c.args.work.now.items (shape_at c.side_of.new.heap c.in_ok-left.left) (shape_at c.side_of.new.heap c.args.right.now) bs)
    c.by_sides.new.work.items c.by_sides.result c.is_sound.ensures c.side_of.ensures.grows
    (λ bs. rule-seen c.args.heap.now c.side_of.new.heap c.args.mark.index c.args.e c.args.work.now.items (shape c.args.mark.index (read c.args.heap.now c.args.e.left.index names)) (shape_at c.args.heap.now c.args.right.now) (shape_at c.side_of.new.heap c.in_ok-left.left) (shape_at c.side_of.new.heap c.args.right.now) bs
    c.is_sound.ensures c.side_of.ensures.grows c.side_of.ensures.variables c.requires.equation c.requires.valid c.in_ok-left.ensures.shape (sym (shape-kept c.args.heap.now c.side_of.new.heap c.args.mark.index c.args.e.depth c.args.right.now c.is_sound.ensures c.side_of.ensures.grows c.requires.right)))
    c.by_sides.ensures.turn

pub returns-clause-frozen : goal.returns-clause-frozen
returns-clause-frozen c = frozen-after c.args.heap.now c.side_of.new.heap c.by_sides.new.heap c.args.mark.index c.side_of.ensures.grows c.by_sides.ensures.frozen

pub returns-clause-grows : goal.returns-clause-grows
returns-clause-grows c =
    grows-after c.args.heap.now c.side_of.new.heap c.by_sides.new.heap c.args.trail.now.entries c.by_sides.new.trail.entries c.side_of.ensures.grows
    c.by_sides.ensures.grows
