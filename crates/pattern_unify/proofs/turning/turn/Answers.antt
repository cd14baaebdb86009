use Rattle.std.proofs.Common.{◌++◌, ◌∷◌, [], ◌∙◌}
use Rattle.level_terms.specs.Reading.{read}
use Rattle.ref_terms.specs.unification.Rules.{step}
use Rattle.ref_terms.specs.unification.Shape.{shape}
use Rattle.beta_fragment.specs.Names.{names}
use Rattle.pattern_unify.specs.inside.Equations.{problem_at}
use Rattle.pattern_unify.specs.inside.Sides.{shape_at}
use Rattle.pattern_unify.specs.inside.Turns.{rule_at}
use Rattle.pattern_unify.proofs.EquationLemmas.{equation_valid-kept, equations_valid-kept}
use Rattle.pattern_unify.proofs.KeptLemmas.{frozen-grown, frozen-after, grows-after}
use Rattle.pattern_unify.proofs.OwnLemmas.{own-later}
use Rattle.pattern_unify.proofs.TurnLemmas.{seen-after, step-last, rule-seen, shape-later}
use Rattle.pattern_unify.proofs.turning.turn.Goals as goal

pub returns-in_err-right-in-Some-clause-frozen : goal.returns-in_err-right-in-Some-clause-frozen
returns-in_err-right-in-Some-clause-frozen c = frozen-grown c.args.heap.now c.side_of.new.heap c.args.mark.index c.side_of.ensures.grows

pub after_own-requires-clause-own : goal.after_own-requires-clause-own
after_own-requires-clause-own c = own-later c.args.heap.now c.side_of.new.heap c.args.mark.index c.args.e.depth c.args.e.left.index c.in-Some.v c.side_of.ensures.grows c.side_of.ensures.variables c.in-Some.ensures

pub after_own-requires-clause-equation : goal.after_own-requires-clause-equation
after_own-requires-clause-equation c = equation_valid-kept c.args.heap.now c.side_of.new.heap [] [] c.args.e c.is_sound.ensures c.side_of.ensures.grows c.requires.equation

pub after_own-requires-clause-valid : goal.after_own-requires-clause-valid
after_own-requires-clause-valid c = equations_valid-kept c.args.heap.now c.side_of.new.heap [] [] c.args.work.now.items c.is_sound.ensures c.side_of.ensures.grows c.requires.valid

pub returns-in_ok-right-in-Some-clause-turn : goal.returns-in_ok-right-in-Some-clause-turn
returns-in_ok-right-in-Some-clause-turn c =
    seen-after c.args.heap.now c.side_of.new.heap c.after_own.new.heap (λ bs. step c.args.mark.index (problem_at c.args.heap.now (c.args.work.now.items ++ c.args.e ∷ []) bs))
    (λ bs. rule_at c.args.mark.index c.side_of.new.heap c.args.e c.args.work.now.items (shape c.args.mark.index (read c.side_of.new.heap c.args.e.left.index names)) (shape_at c.side_of.new.heap c.in_ok-right-in-Some.right) bs)
    c.after_own.new.work.items c.after_own.result c.is_sound.ensures c.side_of.ensures.grows
    (λ bs. step-last c.args.heap.now c.args.mark.index c.args.work.now.items c.args.e bs
    ∙ rule-seen c.args.heap.now c.side_of.new.heap c.args.mark.index c.args.e c.args.work.now.items (shape c.args.mark.index (read c.args.heap.now c.args.e.left.index names)) (shape c.args.mark.index (read c.args.heap.now c.args.e.right.index names)) (shape c.args.mark.index (read c.side_of.new.heap c.args.e.left.index names)) (shape_at c.side_of.new.heap c.in_ok-right-in-Some.right) bs
    c.is_sound.ensures c.side_of.ensures.grows c.side_of.ensures.variables c.requires.equation c.requires.valid
    (shape-later c.args.heap.now c.side_of.new.heap c.args.mark.index c.args.e.left.index c.args.e.depth c.is_sound.ensures c.side_of.ensures.grows c.requires.equation.0) c.in_ok-right-in-Some.ensures.shape)
    c.after_own.ensures.turn

pub returns-in_ok-right-in-Some-clause-frozen : goal.returns-in_ok-right-in-Some-clause-frozen
returns-in_ok-right-in-Some-clause-frozen c = frozen-after c.args.heap.now c.side_of.new.heap c.after_own.new.heap c.args.mark.index c.side_of.ensures.grows c.after_own.ensures.frozen

pub returns-in_ok-right-in-Some-clause-grows : goal.returns-in_ok-right-in-Some-clause-grows
returns-in_ok-right-in-Some-clause-grows c =
    grows-after c.args.heap.now c.side_of.new.heap c.after_own.new.heap c.args.trail.now.entries c.after_own.new.trail.entries c.side_of.ensures.grows
    c.after_own.ensures.grows

pub returns-in_err-left-in-None-clause-frozen : goal.returns-in_err-left-in-None-clause-frozen
returns-in_err-left-in-None-clause-frozen c = frozen-grown c.args.heap.now c.side_of-in-None.new.heap c.args.mark.index c.side_of-in-None.ensures.grows

pub after_left-requires-clause-equation : goal.after_left-requires-clause-equation
after_left-requires-clause-equation c = equation_valid-kept c.args.heap.now c.side_of-in-None.new.heap [] [] c.args.e c.is_sound.ensures c.side_of-in-None.ensures.grows c.requires.equation

pub after_left-requires-clause-valid : goal.after_left-requires-clause-valid
after_left-requires-clause-valid c = equations_valid-kept c.args.heap.now c.side_of-in-None.new.heap [] [] c.args.work.now.items c.is_sound.ensures c.side_of-in-None.ensures.grows c.requires.valid

pub returns-in_ok-left-in-None-clause-turn : goal.returns-in_ok-left-in-None-clause-turn
returns-in_ok-left-in-None-clause-turn c =
    seen-after c.args.heap.now c.side_of-in-None.new.heap c.after_left.new.heap (λ bs. step c.args.mark.index (problem_at c.args.heap.now (c.args.work.now.items ++ c.args.e ∷ []) bs))
    (λ bs. rule_at c.args.mark.index c.side_of-in-None.new.heap c.args.e c.args.work.now.items (shape_at c.side_of-in-None.new.heap c.in_ok-left-in-None.left) (shape c.args.mark.index (read c.side_of-in-None.new.heap c.args.e.right.index names)) bs)
    c.after_left.new.work.items c.after_left.result c.is_sound.ensures c.side_of-in-None.ensures.grows
    (λ bs. step-last c.args.heap.now c.args.mark.index c.args.work.now.items c.args.e bs
    ∙ rule-seen c.args.heap.now c.side_of-in-None.new.heap c.args.mark.index c.args.e c.args.work.now.items (shape c.args.mark.index (read c.args.heap.now c.args.e.left.index names)) (shape c.args.mark.index (read c.args.heap.now c.args.e.right.index names)) (shape_at c.side_of-in-None.new.heap c.in_ok-left-in-None.left) (shape c.args.mark.index (read c.side_of-in-None.new.heap c.args.e.right.index names)) bs
    c.is_sound.ensures c.side_of-in-None.ensures.grows c.side_of-in-None.ensures.variables c.requires.equation c.requires.valid
    c.in_ok-left-in-None.ensures.shape (shape-later c.args.heap.now c.side_of-in-None.new.heap c.args.mark.index c.args.e.right.index c.args.e.depth c.is_sound.ensures c.side_of-in-None.ensures.grows c.requires.equation.1))
    c.after_left.ensures.turn

pub returns-in_ok-left-in-None-clause-frozen : goal.returns-in_ok-left-in-None-clause-frozen
returns-in_ok-left-in-None-clause-frozen c = frozen-after c.args.heap.now c.side_of-in-None.new.heap c.after_left.new.heap c.args.mark.index c.side_of-in-None.ensures.grows c.after_left.ensures.frozen

pub returns-in_ok-left-in-None-clause-grows : goal.returns-in_ok-left-in-None-clause-grows
returns-in_ok-left-in-None-clause-grows c =
    grows-after c.args.heap.now c.side_of-in-None.new.heap c.after_left.new.heap c.args.trail.now.entries c.after_left.new.trail.entries c.side_of-in-None.ensures.grows
    c.after_left.ensures.grows
