use Rattle.std.proofs.Common.{[], map, option_map, sym, ap}
use Rattle.level_terms.specs.Reading.{read}
use Rattle.level_terms.proofs.ValidLemmas.{growth_keeps_valid}
use Rattle.ref_terms.specs.unification.Pattern.{of_name, pattern_of}
use Rattle.ref_terms.specs.unification.Rules.{bind_to}
use Rattle.beta_fragment.specs.Names.{names}
use Rattle.beta_fragment.specs.HeadForm.{all_read}
use Rattle.level_terms.proofs.ReadLemmas.{valid-below}
use Rattle.pattern_unify.proofs.EquationLemmas.{equation_valid-kept, equations_valid-kept}
use Rattle.pattern_unify.proofs.KeptLemmas.{open-kept, frozen-grown, frozen-after, grows-after}
use Rattle.pattern_unify.proofs.NamedSpines.{pattern-distinct}
use Rattle.pattern_unify.proofs.FlexibleTurns.{turns-later}
use Rattle.pattern_unify.proofs.flexible.against.Goals as goal

pub returns-in_err-ns-clause-frozen : goal.returns-in_err-ns-clause-frozen
returns-in_err-ns-clause-frozen c = frozen-grown c.args.heap.now c.pattern_names.new.heap c.args.mark.index c.pattern_names.ensures.grows

pub against_names-requires-clause-variable : goal.against_names-requires-clause-variable
against_names-requires-clause-variable c = open-kept c.args.heap.now c.pattern_names.new.heap c.args.v.index c.pattern_names.ensures.grows c.pattern_names.ensures.variables c.requires.variable

pub against_names-requires-clause-distinct : goal.against_names-requires-clause-distinct
against_names-requires-clause-distinct c = pattern-distinct c.in_ok-ns.ns (λ ns. ns.items) (all_read c.args.heap.now c.args.xs.now) c.in_ok-ns.ensures.pattern

pub against_names-requires-clause-term : goal.against_names-requires-clause-term
against_names-requires-clause-term c =
    growth_keeps_valid c.args.heap.now c.pattern_names.new.heap [] [] c.args.t.index c.args.e.depth c.is_sound.ensures c.pattern_names.ensures.grows (valid-below c.args.heap.now c.args.t.index c.args.e.depth c.requires.term) c.requires.term

pub against_names-requires-clause-equation : goal.against_names-requires-clause-equation
against_names-requires-clause-equation c = equation_valid-kept c.args.heap.now c.pattern_names.new.heap [] [] c.args.e c.is_sound.ensures c.pattern_names.ensures.grows c.requires.equation

pub against_names-requires-clause-valid : goal.against_names-requires-clause-valid
against_names-requires-clause-valid c = equations_valid-kept c.args.heap.now c.pattern_names.new.heap [] [] c.args.work.now.items c.is_sound.ensures c.pattern_names.ensures.grows c.requires.valid

pub returns-clause-turn : goal.returns-clause-turn
returns-clause-turn c =
    turns-later (bind_to c.args.mark.index c.args.v.index (option_map (λ ns. map of_name ns.items) c.in_ok-ns.ns)) (bind_to c.args.mark.index c.args.v.index (pattern_of (all_read c.args.heap.now c.args.xs.now)))
    c.args.heap.now c.pattern_names.new.heap c.against_names.new.heap c.args.t.index c.args.e.depth c.args.e c.args.work.now.items c.against_names.new.work.items c.against_names.result
    c.is_sound.ensures c.pattern_names.ensures.grows c.pattern_names.ensures.variables c.requires.term c.requires.equation c.requires.valid
    (λ d es p. ap (λ o. bind_to c.args.mark.index c.args.v.index o (read c.args.heap.now c.args.t.index names) d es p) (sym c.in_ok-ns.ensures.pattern))
    c.against_names.ensures.turn

pub returns-clause-frozen : goal.returns-clause-frozen
returns-clause-frozen c = frozen-after c.args.heap.now c.pattern_names.new.heap c.against_names.new.heap c.args.mark.index c.pattern_names.ensures.grows c.against_names.ensures.frozen

pub returns-clause-grows : goal.returns-clause-grows
returns-clause-grows c =
    grows-after c.args.heap.now c.pattern_names.new.heap c.against_names.new.heap c.args.trail.now.entries c.against_names.new.trail.entries c.pattern_names.ensures.grows
    c.against_names.ensures.grows
