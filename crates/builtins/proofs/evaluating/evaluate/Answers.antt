use Rattle.std.proofs.Common.{rules, ◌<◌, [], List, reverse, refl, sym, ◌∙◌, ap, subst, w64, to_z, of_z, FitsSigned}
use Rattle.std.proofs.lemmas.Int.{to_z-of_z}
use Rattle.level_terms.specs.Reading.{read}
use Rattle.level_terms.proofs.GrowthLemmas.{grows-refl, grows-trans}
use Rattle.ref_terms.specs.search.Arithmetic.{value_of}
use Rattle.ref_terms.specs.search.Fault.{Good}
use Rattle.beta_fragment.specs.Names.{names}
use Rattle.builtins.specs.Outcome.{StopsBy}
use Rattle.builtins.specs.inside.Numbers.{IsExpression}
use Rattle.builtins.specs.inside.Pending.{IsNext, IsEvaluating, left_of}
use Rattle.builtins.specs.declared.evaluating.Frame.{Frame}
use Rattle.builtins.specs.declared.evaluating.Frame.TheVariants.{Left}
use Rattle.builtins.proofs.PendingLemmas.{evaluating-first, evaluating-operands, operands-fall, evaluating-handed, handed-falls, evaluating-stopped, evaluating-wrong, newest-frame, handed_on}
use Rattle.builtins.proofs.evaluating.evaluate.Goals as goal

pub loop-work-init : goal.loop-work-init
loop-work-init c = record {
  evaluating = evaluating-first c.args.heap.now c.args.depth c.args.e.index c.new-work.result.items c.new-work.ensures.items c.requires;
  variables = refl;
  grows = grows-refl c.args.heap.now [];
}

pub returns-in_err-z-clause-grows : goal.returns-in_err-z-clause-grows
returns-in_err-z-clause-grows c = grows-trans c.args.heap.now c.loop-work.heap c.look.new.heap [] [] [] c.loop-work.invariant.grows c.look.ensures.grows

pub returns-in_err-b-in-Value-clause-stops : goal.returns-in_err-b-in-Value-clause-stops
returns-in_err-b-in-Value-clause-stops c =
    let fits : FitsSigned w64 c.in-Value.z = search rules in
    let seen = subst (IsExpression c.look.new.heap c.args.depth (read c.loop-work.heap c.loop-work.node.index names)) c.in-Value.is c.in_ok-z.ensures.seen in
    handed_on (StopsBy (value_of (read c.args.heap.now c.args.e.index names))) c.in_err-b-in-Value.field-0.0 c.from_residual-in_err-b-in-Value.result c.from_residual-in_err-b-in-Value.ensures.1
    (evaluating-stopped (value_of (read c.args.heap.now c.args.e.index names)) c.loop-work.heap c.look.new.heap c.is_sound.ensures c.look.ensures.grows c.args.depth c.loop-work.node.index (reverse c.loop-work.work.items) c.loop-work.invariant.evaluating
    (to_z w64 (of_z w64 c.in-Value.z)) (seen ∙ ap Good (sym (to_z-of_z w64 c.in-Value.z fits))) c.in_err-b-in-Value.field-0.0 c.in_err-b-in-Value.ensures.stops)

pub returns-in_err-b-in-Value-clause-grows : goal.returns-in_err-b-in-Value-clause-grows
returns-in_err-b-in-Value-clause-grows c = grows-trans c.args.heap.now c.loop-work.heap c.look.new.heap [] [] [] c.loop-work.invariant.grows c.look.ensures.grows

pub loop-work-smaller-in-Operand : goal.loop-work-smaller-in-Operand
loop-work-smaller-in-Operand c =
    let fits : FitsSigned w64 c.in-Value.z = search rules in
    let seen = subst (IsExpression c.look.new.heap c.args.depth (read c.loop-work.heap c.loop-work.node.index names)) c.in-Value.is c.in_ok-z.ensures.seen in
    let hands = subst (IsNext c.loop-work.work.items c.finish.new.work.items (to_z w64 (of_z w64 c.in-Value.z))) c.in-Operand.is c.in_ok-b-in-Value.ensures.next in
    handed-falls (value_of (read c.args.heap.now c.args.e.index names)) c.loop-work.heap c.look.new.heap c.is_sound.ensures c.look.ensures.grows c.args.depth c.loop-work.node.index (reverse c.loop-work.work.items) c.loop-work.invariant.evaluating
    (to_z w64 (of_z w64 c.in-Value.z)) (seen ∙ ap Good (sym (to_z-of_z w64 c.in-Value.z fits))) (reverse c.finish.new.work.items) c.in-Operand.b.index hands

pub loop-work-preserved-in-Operand : goal.loop-work-preserved-in-Operand
loop-work-preserved-in-Operand c =
    let fits : FitsSigned w64 c.in-Value.z = search rules in
    let seen = subst (IsExpression c.look.new.heap c.args.depth (read c.loop-work.heap c.loop-work.node.index names)) c.in-Value.is c.in_ok-z.ensures.seen in
    let hands = subst (IsNext c.loop-work.work.items c.finish.new.work.items (to_z w64 (of_z w64 c.in-Value.z))) c.in-Operand.is c.in_ok-b-in-Value.ensures.next in
    record {
      evaluating = evaluating-handed (value_of (read c.args.heap.now c.args.e.index names)) c.loop-work.heap c.look.new.heap c.is_sound.ensures c.look.ensures.grows c.args.depth c.loop-work.node.index (reverse c.loop-work.work.items) c.loop-work.invariant.evaluating
          (to_z w64 (of_z w64 c.in-Value.z)) (seen ∙ ap Good (sym (to_z-of_z w64 c.in-Value.z fits))) (reverse c.finish.new.work.items) c.in-Operand.b.index hands;
      variables = c.look.ensures.variables ∙ c.loop-work.invariant.variables;
      grows = grows-trans c.args.heap.now c.loop-work.heap c.look.new.heap [] [] [] c.loop-work.invariant.grows c.look.ensures.grows;
    }

pub returns-in-Done-clause-grows : goal.returns-in-Done-clause-grows
returns-in-Done-clause-grows c = grows-trans c.args.heap.now c.loop-work.heap c.look.new.heap [] [] [] c.loop-work.invariant.grows c.look.ensures.grows

pub returns-in_err-put-in-Operation-clause-grows : goal.returns-in_err-put-in-Operation-clause-grows
returns-in_err-put-in-Operation-clause-grows c = grows-trans c.args.heap.now c.loop-work.heap c.look.new.heap [] [] [] c.loop-work.invariant.grows c.look.ensures.grows

pub loop-work-smaller : goal.loop-work-smaller
loop-work-smaller c =
    let seen = subst (IsExpression c.look.new.heap c.args.depth (read c.loop-work.heap c.loop-work.node.index names)) c.in-Operation.is c.in_ok-z.ensures.seen in
    let work = ap reverse c.in_ok-put-in-Operation.ensures ∙ newest-frame c.loop-work.work.items (Left c.in-Operation.operator c.in-Operation.b) in
    subst (λ (fs : List Frame). left_of c.look.new.heap c.in-Operation.a.index fs < left_of c.loop-work.heap c.loop-work.node.index (reverse c.loop-work.work.items)) (sym work)
    (operands-fall (value_of (read c.args.heap.now c.args.e.index names)) c.loop-work.heap c.look.new.heap c.is_sound.ensures c.look.ensures.grows c.args.depth c.loop-work.node.index (reverse c.loop-work.work.items) c.loop-work.invariant.evaluating
    c.in-Operation.operator c.in-Operation.a c.in-Operation.b seen)

pub loop-work-preserved : goal.loop-work-preserved
loop-work-preserved c =
    let seen = subst (IsExpression c.look.new.heap c.args.depth (read c.loop-work.heap c.loop-work.node.index names)) c.in-Operation.is c.in_ok-z.ensures.seen in
    let work = ap reverse c.in_ok-put-in-Operation.ensures ∙ newest-frame c.loop-work.work.items (Left c.in-Operation.operator c.in-Operation.b) in
    record {
      evaluating = subst (IsEvaluating (value_of (read c.args.heap.now c.args.e.index names)) c.look.new.heap c.args.depth c.in-Operation.a.index) (sym work)
          (evaluating-operands (value_of (read c.args.heap.now c.args.e.index names)) c.loop-work.heap c.look.new.heap c.is_sound.ensures c.look.ensures.grows c.args.depth c.loop-work.node.index (reverse c.loop-work.work.items) c.loop-work.invariant.evaluating
          c.in-Operation.operator c.in-Operation.a c.in-Operation.b seen);
      variables = c.look.ensures.variables ∙ c.loop-work.invariant.variables;
      grows = grows-trans c.args.heap.now c.loop-work.heap c.look.new.heap [] [] [] c.loop-work.invariant.grows c.look.ensures.grows;
    }

pub returns-in-Wrong-clause-stops : goal.returns-in-Wrong-clause-stops
returns-in-Wrong-clause-stops c =
    let seen = subst (IsExpression c.look.new.heap c.args.depth (read c.loop-work.heap c.loop-work.node.index names)) c.in-Wrong.is c.in_ok-z.ensures.seen in
    evaluating-wrong (value_of (read c.args.heap.now c.args.e.index names)) c.loop-work.heap c.look.new.heap c.is_sound.ensures c.look.ensures.grows c.args.depth c.loop-work.node.index (reverse c.loop-work.work.items) c.loop-work.invariant.evaluating c.in-Wrong.e seen

pub returns-in-Wrong-clause-grows : goal.returns-in-Wrong-clause-grows
returns-in-Wrong-clause-grows c = grows-trans c.args.heap.now c.loop-work.heap c.look.new.heap [] [] [] c.loop-work.invariant.grows c.look.ensures.grows
