use Rattle.std.proofs.Common.{◌≡◌, [], ap₂, ◌∙◌, subst, sym, rules, ℤ, FitsSigned, w64}
use Rattle.std.specs.Prelude.{int_lt}
use Rattle.std.proofs.lemmas.Int.{to_z-of_z}
use Rattle.level_terms.specs.Reading.{read}
use Rattle.level_terms.proofs.GrowthLemmas.{grows-trans}
use Rattle.level_terms.proofs.ValidLemmas.{growth_keeps_readings, growth_keeps_valid}
use Rattle.level_terms.proofs.ReadLemmas.{valid-below}
use Rattle.ref_terms.specs.search.Arithmetic.{operand, judged_less}
use Rattle.ref_terms.specs.terms.Term.{Term}
use Rattle.ref_terms.specs.search.Fault.{Good}
use Rattle.beta_fragment.specs.Names.{names}
use Rattle.builtins.specs.Outcome.{StopsBy}
use Rattle.builtins.proofs.QuestionLemmas.{less-right}
use Rattle.builtins.proofs.questions.is_less.Goals as goal

pub integer-requires-2 : goal.integer-requires-2
integer-requires-2 c = growth_keeps_valid c.args.heap.now c.integer.new.heap [] [] c.args.b.index c.args.depth c.is_sound.ensures c.integer.ensures.grows (valid-below c.args.heap.now c.args.b.index c.args.depth c.requires.right) c.requires.right

pub returns-in-Ok-clause-less : goal.returns-in-Ok-clause-less
returns-in-Ok-clause-less c =
    let left : FitsSigned w64 c.in_ok-left.left = search rules in
    let right : FitsSigned w64 c.in-Ok.right = search rules in
    ap₂ judged_less c.in_ok-left.ensures.value
    (subst (λ (t : Term). operand t ≡ Good c.in-Ok.right) (growth_keeps_readings c.args.heap.now c.integer.new.heap c.args.b.index names c.is_sound.ensures c.integer.ensures.grows (valid-below c.args.heap.now c.args.b.index c.args.depth c.requires.right)) c.in-Ok.ensures.value)
    ∙ ap₂ (λ (x y : ℤ). Good (int_lt x y)) (sym (to_z-of_z w64 c.in_ok-left.left left)) (sym (to_z-of_z w64 c.in-Ok.right right))

pub returns-in-Ok-clause-grows : goal.returns-in-Ok-clause-grows
returns-in-Ok-clause-grows c = grows-trans c.args.heap.now c.integer.new.heap c.integer-2.new.heap [] [] [] c.integer.ensures.grows c.integer-2.ensures.grows

pub returns-in-Err-clause-stops : goal.returns-in-Err-clause-stops
returns-in-Err-clause-stops c =
    less-right (read c.args.heap.now c.args.a.index names) (read c.args.heap.now c.args.b.index names) c.in_ok-left.left c.in-Err.stop c.in_ok-left.ensures.value
    (subst (λ (t : Term). StopsBy (operand t) c.in-Err.stop) (growth_keeps_readings c.args.heap.now c.integer.new.heap c.args.b.index names c.is_sound.ensures c.integer.ensures.grows (valid-below c.args.heap.now c.args.b.index c.args.depth c.requires.right)) c.in-Err.ensures.stops)

pub returns-in-Err-clause-grows : goal.returns-in-Err-clause-grows
returns-in-Err-clause-grows c = grows-trans c.args.heap.now c.integer.new.heap c.integer-2.new.heap [] [] [] c.integer.ensures.grows c.integer-2.ensures.grows
