use Rattle.std.proofs.Common.{◌≡◌, [], subst, sym}
use Rattle.level_terms.specs.Graph.{Graph}
use Rattle.level_terms.specs.Valid.{IsValid}
use Rattle.level_terms.proofs.GrowthLemmas.{keeps_marks}
use Rattle.pattern_unify.proofs.KeptLemmas.{grows-after}
use Rattle.term_rows.proofs.RowLemmas.{stays-valid, goes-back}
use Rattle.term_rows.proofs.calling.try_goal.Goals as goal

pub try_call-requires : goal.try_call-requires
try_call-requires c = stays-valid c.args.heap.now c.text_of.new.heap [] [] c.args.goal.index c.args.depth c.is_sound.ensures c.text_of.ensures.grows c.requires.valid

pub undo-requires : goal.undo-requires
undo-requires c =
    let noted = c.new-trail.result.entries in
    keeps_marks c.args.heap.now c.try_call.new.heap noted c.try_call.new.trail.entries c.mark-mark.result
    (grows-after c.args.heap.now c.text_of.new.heap c.try_call.new.heap noted c.try_call.new.trail.entries c.text_of.ensures.grows c.try_call.ensures.grows)
    c.mark-mark.ensures.can_undo

-- the heap is what it was at the mark
pub text_of-requires-2 : goal.text_of-requires-2
text_of-requires-2 c =
    let noted = c.new-trail.result.entries in
    let back = goes-back c.args.heap.now c.try_call.new.heap c.undo.new.self c.mark-mark.result noted c.try_call.new.trail.entries c.mark-mark.ensures.now c.mark-mark.ensures.can_undo
    (grows-after c.args.heap.now c.text_of.new.heap c.try_call.new.heap noted c.try_call.new.trail.entries c.text_of.ensures.grows c.try_call.ensures.grows)
    c.undo.ensures.heap in
    subst (λ (g : Graph). IsValid g c.args.goal.index c.args.depth) (sym back) c.requires.valid
