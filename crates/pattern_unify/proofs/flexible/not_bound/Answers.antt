use Rattle.std.proofs.Common.{List, ◌++◌, ◌∷◌, [], ap, refl}
use Rattle.level_terms.proofs.GrowthLemmas.{grows-refl}
use Rattle.ref_terms.specs.unification.Problem.{Binding}
use Rattle.ref_terms.specs.unification.Rules.{headed_by_name, by_verdict as reference_by_verdict}
use Rattle.ref_terms.specs.unification.Spine.{head_of}
use Rattle.pattern_unify.specs.inside.Equations.{equation_at, equations_at, problem_at}
use Rattle.pattern_unify.specs.inside.Verdicts.{verdict_of}
use Rattle.pattern_unify.proofs.EquationLemmas.{equation_valid-kept}
use Rattle.pattern_unify.proofs.FlexibleTurns.{drops, drops-again, frozen-dropped}
use Rattle.pattern_unify.proofs.KeptLemmas.{grows-before}
use Rattle.pattern_unify.proofs.flexible.not_bound.Goals as goal

pub unreachable-requires : goal.unreachable-requires
unreachable-requires c = absurd (c.requires.offends c.in-Fine.is)

pub returns-in-Redex-clause-grows : goal.returns-in-Redex-clause-grows
returns-in-Redex-clause-grows c = grows-refl c.args.heap.now c.args.trail.now.entries

pub returns-in-Scope-clause-grows : goal.returns-in-Scope-clause-grows
returns-in-Scope-clause-grows c = grows-refl c.args.heap.now c.args.trail.now.entries

pub returns-in-Itself-clause-turn : goal.returns-in-Itself-clause-turn
returns-in-Itself-clause-turn c v ns u = (
  headed_by_name (head_of u),
  λ (bs : List Binding). ap
      (λ w. reference_by_verdict v ns u (equation_at c.args.heap.now c.args.e) (equations_at c.args.heap.now c.args.work.now.items) (problem_at c.args.heap.now (c.args.work.now.items ++ c.args.e ∷ []) bs) (verdict_of w))
      c.in-Itself.is,
)

pub returns-in-Itself-clause-grows : goal.returns-in-Itself-clause-grows
returns-in-Itself-clause-grows c = grows-refl c.args.heap.now c.args.trail.now.entries

pub returns-in-Foreign-clause-grows : goal.returns-in-Foreign-clause-grows
returns-in-Foreign-clause-grows c = grows-refl c.args.heap.now c.args.trail.now.entries

pub again-requires : goal.again-requires
again-requires c = equation_valid-kept c.args.heap.now c.drop_position.new.heap c.args.trail.now.entries c.drop_position.new.trail.entries c.args.e c.is_sound.ensures c.drop_position.ensures.grows c.requires.equation

pub returns-in_err-again-in-Dropped-clause-frozen : goal.returns-in_err-again-in-Dropped-clause-frozen
returns-in_err-again-in-Dropped-clause-frozen c m d =
    frozen-dropped c.args.heap.now c.drop_position.new.heap c.again.new.heap m c.args.verdict c.in-Dropped.other c.in-Dropped.position c.in-Dropped.arity c.in-Dropped.is d c.drop_position.ensures.others c.again.ensures.grows

pub returns-in_err-again-in-Dropped-clause-grows : goal.returns-in_err-again-in-Dropped-clause-grows
returns-in_err-again-in-Dropped-clause-grows c = grows-before c.args.heap.now c.drop_position.new.heap c.again.new.heap c.args.trail.now.entries c.drop_position.new.trail.entries c.drop_position.ensures.grows c.again.ensures.grows

pub returns-in_ok-again-in-Dropped-clause-turn : goal.returns-in_ok-again-in-Dropped-clause-turn
returns-in_ok-again-in-Dropped-clause-turn c v ns u =
    drops-again c.args.heap.now c.drop_position.new.heap c.again.new.heap c.args.trail.now.entries c.drop_position.new.trail.entries
    (λ (bs : List Binding). reference_by_verdict v ns u (equation_at c.args.heap.now c.args.e) (equations_at c.args.heap.now c.args.work.now.items) (problem_at c.args.heap.now (c.args.work.now.items ++ c.args.e ∷ []) bs) (verdict_of c.args.verdict))
    c.args.work.now.items c.again.new.work.items c.args.e c.is_sound.ensures c.is_sound-in-Dropped.ensures c.drop_position.ensures.grows c.again.ensures.grows c.requires.valid c.in_ok-again-in-Dropped.ensures.again
    (drops c.args.heap.now c.drop_position.new.heap c.args.trail.now.entries c.drop_position.new.trail.entries v ns u c.args.work.now.items (c.args.work.now.items ++ c.args.e ∷ []) c.args.e (verdict_of c.args.verdict)
    c.in-Dropped.other.index c.in-Dropped.position c.in-Dropped.arity c.is_sound.ensures c.drop_position.ensures.grows (ap verdict_of c.in-Dropped.is) c.in_ok-drop_position-in-Dropped.ensures.bound c.in_ok-drop_position-in-Dropped.ensures.variables
    c.requires.valid c.requires.equation refl)

pub returns-in_ok-again-in-Dropped-clause-frozen : goal.returns-in_ok-again-in-Dropped-clause-frozen
returns-in_ok-again-in-Dropped-clause-frozen c m d =
    frozen-dropped c.args.heap.now c.drop_position.new.heap c.again.new.heap m c.args.verdict c.in-Dropped.other c.in-Dropped.position c.in-Dropped.arity c.in-Dropped.is d c.drop_position.ensures.others c.again.ensures.grows

pub returns-in_ok-again-in-Dropped-clause-grows : goal.returns-in_ok-again-in-Dropped-clause-grows
returns-in_ok-again-in-Dropped-clause-grows c = grows-before c.args.heap.now c.drop_position.new.heap c.again.new.heap c.args.trail.now.entries c.drop_position.new.trail.entries c.drop_position.ensures.grows c.again.ensures.grows
