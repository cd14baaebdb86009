use Rattle.std.proofs.Common.{◌≡◌, [], Some, map, false, refl, sym, subst}
use Rattle.level_terms.specs.Reading.{read}
use Rattle.level_terms.proofs.ValidLemmas.{growth_keeps_readings, growth_keeps_valid}
use Rattle.ref_terms.specs.terms.Term.{Term}
use Rattle.ref_terms.specs.terms.Occurs.{occurs}
use Rattle.ref_terms.specs.unification.Closing.{names_below}
use Rattle.ref_terms.specs.unification.Pattern.{of_name}
use Rattle.beta_fragment.specs.Names.{names}
use Rattle.level_terms.proofs.ReadLemmas.{valid-below}
use Rattle.pattern_unify.specs.inside.Verdicts.{verdict_of}
use Rattle.pattern_unify.proofs.EquationLemmas.{equation_valid-kept, equations_valid-kept}
use Rattle.pattern_unify.proofs.KeptLemmas.{open-kept, frozen-grown, frozen-after, grows-after}
use Rattle.pattern_unify.proofs.NamedSpines.{fine-absent}
use Rattle.pattern_unify.proofs.FlexibleTurns.{turns-judged}
use Rattle.pattern_unify.proofs.flexible.against_in_scope.Goals as goal

pub returns-in_err-verdict-clause-frozen : goal.returns-in_err-verdict-clause-frozen
returns-in_err-verdict-clause-frozen c = frozen-grown c.args.heap.now c.offence_in_scope.new.heap c.args.mark.index c.offence_in_scope.ensures.grows

pub by_verdict_in_scope-requires-clause-variable : goal.by_verdict_in_scope-requires-clause-variable
by_verdict_in_scope-requires-clause-variable c = open-kept c.args.heap.now c.offence_in_scope.new.heap c.args.v.index c.offence_in_scope.ensures.grows c.offence_in_scope.ensures.variables c.requires.variable

pub by_verdict_in_scope-requires-clause-term : goal.by_verdict_in_scope-requires-clause-term
by_verdict_in_scope-requires-clause-term c =
    growth_keeps_valid c.args.heap.now c.offence_in_scope.new.heap [] [] c.args.t.index c.args.e.depth c.is_sound.ensures c.offence_in_scope.ensures.grows (valid-below c.args.heap.now c.args.t.index c.args.e.depth c.requires.term) c.requires.term

pub by_verdict_in_scope-requires-clause-absent : goal.by_verdict_in_scope-requires-clause-absent
by_verdict_in_scope-requires-clause-absent c =
    λ q. let reads = growth_keeps_readings c.args.heap.now c.offence_in_scope.new.heap c.args.t.index names c.is_sound.ensures c.offence_in_scope.ensures.grows (valid-below c.args.heap.now c.args.t.index c.args.e.depth c.requires.term) in
    subst (λ (u : Term). occurs c.args.v.index u ≡ false) (sym reads)
    (fine-absent c.args.mark.index c.args.v.index (names_below c.args.e.depth) (read c.args.heap.now c.args.t.index names) (verdict_of c.in_ok-verdict.verdict) c.in_ok-verdict.ensures.verdict q)

pub by_verdict_in_scope-requires-clause-equation : goal.by_verdict_in_scope-requires-clause-equation
by_verdict_in_scope-requires-clause-equation c = equation_valid-kept c.args.heap.now c.offence_in_scope.new.heap [] [] c.args.e c.is_sound.ensures c.offence_in_scope.ensures.grows c.requires.equation

pub by_verdict_in_scope-requires-clause-valid : goal.by_verdict_in_scope-requires-clause-valid
by_verdict_in_scope-requires-clause-valid c = equations_valid-kept c.args.heap.now c.offence_in_scope.new.heap [] [] c.args.work.now.items c.is_sound.ensures c.offence_in_scope.ensures.grows c.requires.valid

pub returns-clause-turn : goal.returns-clause-turn
returns-clause-turn c =
    turns-judged c.args.heap.now c.offence_in_scope.new.heap c.by_verdict_in_scope.new.heap c.args.mark.index c.args.v.index (Some (map of_name (names_below c.args.e.depth))) (names_below c.args.e.depth) (verdict_of c.in_ok-verdict.verdict) c.args.t.index c.args.e.depth c.args.e c.args.work.now.items c.by_verdict_in_scope.new.work.items c.by_verdict_in_scope.result
    c.is_sound.ensures c.offence_in_scope.ensures.grows c.offence_in_scope.ensures.variables c.requires.term c.requires.equation c.requires.valid
    refl
    c.in_ok-verdict.ensures.verdict c.by_verdict_in_scope.ensures.turn

pub returns-clause-frozen : goal.returns-clause-frozen
returns-clause-frozen c =
    frozen-after c.args.heap.now c.offence_in_scope.new.heap c.by_verdict_in_scope.new.heap c.args.mark.index c.offence_in_scope.ensures.grows
    (c.by_verdict_in_scope.ensures.frozen c.args.mark.index c.requires.assignable c.in_ok-verdict.ensures.dropped)

pub returns-clause-grows : goal.returns-clause-grows
returns-clause-grows c =
    grows-after c.args.heap.now c.offence_in_scope.new.heap c.by_verdict_in_scope.new.heap c.args.trail.now.entries c.by_verdict_in_scope.new.trail.entries c.offence_in_scope.ensures.grows
    c.by_verdict_in_scope.ensures.grows
