use Rattle.std.proofs.Common.{rules, [], sym, ap, ◌∙◌, FitsSigned, w64, to_z, of_z}
use Rattle.std.proofs.lemmas.Int.{to_z-of_z}
use Rattle.level_terms.specs.Reading.{read}
use Rattle.level_terms.proofs.GrowthLemmas.{grows-trans, grows-notes}
use Rattle.level_terms.proofs.ReadLemmas.{valid-below}
use Rattle.level_terms.proofs.ValidLemmas.{growth_keeps_readings, growth_keeps_valid}
use Rattle.ref_terms.specs.terms.Term.{At, Int}
use Rattle.ref_terms.specs.search.Arithmetic.{value_of}
use Rattle.ref_terms.specs.search.Fault.{Good}
use Rattle.beta_fragment.specs.Names.{names}
use Rattle.builtins.specs.Outcome.{Stops, evaluated}
use Rattle.builtins.proofs.PendingLemmas.{handed_on}
use Rattle.builtins.proofs.CallLemmas.{ok-each, err-each, equated-answer, equated-stops, evaluated-answer, evaluated-stops, evaluated-stops_later, int-variables, int-reads, int-valid}
use Rattle.builtins.proofs.calling.is_value.Goals as goal

pub returns-in_err-z-clause-stops : goal.returns-in_err-z-clause-stops
returns-in_err-z-clause-stops c =
    handed_on (Stops c.args.heap.now c.args.depth (evaluated (read c.args.heap.now c.args.x.index names) (value_of (read c.args.heap.now c.args.e.index names)))) c.in_err-z.field-0.0 c.from_residual.result c.from_residual.ensures.1
    (evaluated-stops c.args.heap.now c.args.depth (read c.args.heap.now c.args.x.index names) (value_of (read c.args.heap.now c.args.e.index names)) c.in_err-z.field-0.0 c.in_err-z.ensures.stops)

pub unify-requires-clause-left : goal.unify-requires-clause-left
unify-requires-clause-left c =
    let grows = grows-trans c.args.heap.now c.evaluate.new.heap c.int.new.self [] [] [] c.evaluate.ensures.grows c.int.ensures.grows in
    growth_keeps_valid c.args.heap.now c.int.new.self [] [] c.args.x.index c.args.depth c.is_sound.ensures grows (valid-below c.args.heap.now c.args.x.index c.args.depth c.requires.variable) c.requires.variable

pub unify-requires-clause-right : goal.unify-requires-clause-right
unify-requires-clause-right c = int-valid c.evaluate.new.heap c.int.new.self (to_z w64 (of_z w64 c.in_ok-z.z)) c.in_ok-value.value c.in_ok-value.ensures.ok.0 c.in_ok-value.ensures.ok.1 c.is_sound-3.ensures c.args.depth

pub returns-clause-answer : goal.returns-clause-answer
returns-clause-answer c =
    let fits : FitsSigned w64 c.in_ok-z.z = search rules in
    let grows = grows-trans c.args.heap.now c.evaluate.new.heap c.int.new.self [] [] [] c.evaluate.ensures.grows c.int.ensures.grows in
    let z = to_z w64 (of_z w64 c.in_ok-z.z) in
    ok-each _ _ c.unify.result
    (λ b w. evaluated-answer c.args.heap.now c.unify.new.heap c.args.depth (read c.args.heap.now c.args.x.index names) z (value_of (read c.args.heap.now c.args.e.index names)) b
    (c.in_ok-z.ensures.value ∙ ap Good (sym (to_z-of_z w64 c.in_ok-z.z fits)))
    (equated-answer c.args.heap.now c.int.new.self c.args.depth (read c.args.heap.now c.args.x.index names) (At (Int z)) c.args.x.index c.in_ok-value.value.index
    (int-variables c.evaluate.new.heap c.int.new.self z c.in_ok-value.value c.in_ok-value.ensures.ok.0 c.in_ok-value.ensures.ok.1 ∙ c.evaluate.ensures.variables)
    (growth_keeps_readings c.args.heap.now c.int.new.self c.args.x.index names c.is_sound.ensures grows (valid-below c.args.heap.now c.args.x.index c.args.depth c.requires.variable))
    (int-reads c.evaluate.new.heap c.int.new.self z c.in_ok-value.value c.in_ok-value.ensures.ok.0 c.in_ok-value.ensures.ok.1 c.is_sound-3.ensures)
    c.unify.new.heap b c.is_sound.ensures grows w)) c.unify.ensures.answer

pub returns-clause-stops : goal.returns-clause-stops
returns-clause-stops c =
    let fits : FitsSigned w64 c.in_ok-z.z = search rules in
    let grows = grows-trans c.args.heap.now c.evaluate.new.heap c.int.new.self [] [] [] c.evaluate.ensures.grows c.int.ensures.grows in
    let z = to_z w64 (of_z w64 c.in_ok-z.z) in
    err-each _ _ c.unify.result
    (λ stop w. evaluated-stops_later c.args.heap.now c.args.heap.now c.args.depth (read c.args.heap.now c.args.x.index names) z (value_of (read c.args.heap.now c.args.e.index names)) stop
    (c.in_ok-z.ensures.value ∙ ap Good (sym (to_z-of_z w64 c.in_ok-z.z fits)))
    (equated-stops c.args.heap.now c.int.new.self c.args.depth (read c.args.heap.now c.args.x.index names) (At (Int z)) c.args.x.index c.in_ok-value.value.index
    (int-variables c.evaluate.new.heap c.int.new.self z c.in_ok-value.value c.in_ok-value.ensures.ok.0 c.in_ok-value.ensures.ok.1 ∙ c.evaluate.ensures.variables)
    (growth_keeps_readings c.args.heap.now c.int.new.self c.args.x.index names c.is_sound.ensures grows (valid-below c.args.heap.now c.args.x.index c.args.depth c.requires.variable))
    (int-reads c.evaluate.new.heap c.int.new.self z c.in_ok-value.value c.in_ok-value.ensures.ok.0 c.in_ok-value.ensures.ok.1 c.is_sound-3.ensures)
    stop w)) c.unify.ensures.stops

pub returns-clause-grows : goal.returns-clause-grows
returns-clause-grows c =
    let grows = grows-trans c.args.heap.now c.evaluate.new.heap c.int.new.self [] [] [] c.evaluate.ensures.grows c.int.ensures.grows in
    grows-trans c.args.heap.now c.int.new.self c.unify.new.heap c.args.trail.now.entries c.args.trail.now.entries c.unify.new.trail.entries
    (grows-notes c.args.heap.now c.int.new.self c.args.trail.now.entries grows) c.unify.ensures.grows
