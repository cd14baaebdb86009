use Rattle.std.proofs.Common.{◌≡◌, [], subst, sym}
use Rattle.level_terms.specs.Graph.{Graph}
use Rattle.level_terms.specs.Valid.{IsValid}
use Rattle.level_terms.proofs.GrowthLemmas.{keeps_marks}
use Rattle.pattern_unify.proofs.KeptLemmas.{grows-after}
use Rattle.term_rows.proofs.RowLemmas.{stays-valid, goes-back}
use Rattle.term_rows.proofs.unifying.try_problem.Goals as goal

pub try_call-requires-clause-left : goal.try_call-requires-clause-left
try_call-requires-clause-left c = stays-valid c.args.heap.now c.texts_of.new.heap [] [] c.args.problem.left.index c.args.problem.depth c.is_sound.ensures c.texts_of.ensures.grows c.requires.left

pub try_call-requires-clause-right : goal.try_call-requires-clause-right
try_call-requires-clause-right c = stays-valid c.args.heap.now c.texts_of.new.heap [] [] c.args.problem.right.index c.args.problem.depth c.is_sound.ensures c.texts_of.ensures.grows c.requires.right

pub undo-requires : goal.undo-requires
undo-requires c =
    let noted = c.new-trail.result.entries in
    keeps_marks c.args.heap.now c.try_call.new.heap noted c.try_call.new.trail.entries c.mark-mark.result
    (grows-after c.args.heap.now c.texts_of.new.heap c.try_call.new.heap noted c.try_call.new.trail.entries c.texts_of.ensures.grows c.try_call.ensures.grows)
    c.mark-mark.ensures.can_undo

-- the heap is what it was at the mark
went-back : (c : goal.After-texts_of-arg-2-1) → c.undo.new.self ≡ c.args.heap.now
went-back c =
    let noted = c.new-trail.result.entries in
    goes-back c.args.heap.now c.try_call.new.heap c.undo.new.self c.mark-mark.result noted c.try_call.new.trail.entries c.mark-mark.ensures.now c.mark-mark.ensures.can_undo
    (grows-after c.args.heap.now c.texts_of.new.heap c.try_call.new.heap noted c.try_call.new.trail.entries c.texts_of.ensures.grows c.try_call.ensures.grows)
    c.undo.ensures.heap

pub texts_of-requires-2-clause-left : goal.texts_of-requires-2-clause-left
texts_of-requires-2-clause-left c = subst (λ (g : Graph). IsValid g c.args.problem.left.index c.args.problem.depth) (sym (went-back c)) c.requires.left

pub texts_of-requires-2-clause-right : goal.texts_of-requires-2-clause-right
texts_of-requires-2-clause-right c = subst (λ (g : Graph). IsValid g c.args.problem.right.index c.args.problem.depth) (sym (went-back c)) c.requires.right
