use Rattle.std.proofs.Common.{[], ◌∷◌, MatchBool, refl, sym, subst}
use Rattle.level_terms.specs.Reading.{read}
use Rattle.level_terms.proofs.GrowthLemmas.{grows-refl}
use Rattle.ref_terms.specs.search.Value.{is_flex, is_bare_name}
use Rattle.beta_fragment.specs.Names.{names}
use Rattle.goal_form.specs.declared.builtin.Builtin.{Builtin}
use Rattle.builtins.specs.Outcome.{outcome, Succeeds, Fails}
use Rattle.builtins.proofs.CallLemmas.{stays-grown, tells-answer, one-other}
use Rattle.builtins.proofs.calling.call_one.Goals as goal

pub returns-in_ok-answer-in-Var-clause-answer : goal.returns-in_ok-answer-in-Var-clause-answer
returns-in_ok-answer-in-Var-clause-answer c =
    let t = read c.args.heap.now c.args.a.index names in
    subst (λ (k : Builtin). MatchBool c.in_ok-answer-in-Var.answer (Succeeds c.args.heap.now c.is_variable.new.heap c.args.depth (outcome k (t ∷ []))) (Fails c.args.heap.now c.args.depth (outcome k (t ∷ [])))) (sym c.in-Var.is)
    (tells-answer c.args.heap.now c.is_variable.new.heap c.args.depth (is_flex t) c.in_ok-answer-in-Var.answer c.in_ok-answer-in-Var.ensures.variable
    (stays-grown c.args.heap.now c.is_variable.new.heap c.is_sound.ensures c.is_variable.ensures.variables c.is_variable.ensures.grows))

pub returns-in_ok-answer-in-Name-clause-answer : goal.returns-in_ok-answer-in-Name-clause-answer
returns-in_ok-answer-in-Name-clause-answer c =
    let t = read c.args.heap.now c.args.a.index names in
    subst (λ (k : Builtin). MatchBool c.in_ok-answer-in-Name.answer (Succeeds c.args.heap.now c.is_name.new.heap c.args.depth (outcome k (t ∷ []))) (Fails c.args.heap.now c.args.depth (outcome k (t ∷ [])))) (sym c.in-Name.is)
    (tells-answer c.args.heap.now c.is_name.new.heap c.args.depth (is_bare_name t) c.in_ok-answer-in-Name.answer c.in_ok-answer-in-Name.ensures.name
    (stays-grown c.args.heap.now c.is_name.new.heap c.is_sound.ensures c.is_name.ensures.variables c.is_name.ensures.grows))

pub returns-in_ok-print-in-Print-clause-answer : goal.returns-in_ok-print-in-Print-clause-answer
returns-in_ok-print-in-Print-clause-answer c =
    let t = read c.args.heap.now c.args.a.index names in
    subst (λ (k : Builtin). Succeeds c.args.heap.now c.print.new.heap c.args.depth (outcome k (t ∷ []))) (sym c.in-Print.is)
    (stays-grown c.args.heap.now c.print.new.heap c.is_sound.ensures c.print.ensures.variables c.print.ensures.grows)

pub returns-in_default : goal.returns-in_default
returns-in_default c = record {
  answer = tt;
  stops = one-other c.args.heap.now c.args.depth c.args.kind (read c.args.heap.now c.args.a.index names) c.in_default.not-Var c.in_default.not-Name c.in_default.not-Print;
  printed = tt;
  unprinted = refl;
  grows = grows-refl c.args.heap.now [];
}
