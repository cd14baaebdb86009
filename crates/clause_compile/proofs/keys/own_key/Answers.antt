use Rattle.std.proofs.Common.{◌∙◌, List, [], length, ap, sym, subst}
use Rattle.level_terms.specs.declared.node.TermId.{TermId}
use Rattle.level_terms.specs.Graph.{Graph}
use Rattle.level_terms.specs.Growth.{Grows}
use Rattle.level_terms.specs.Undo.{IsTrailOf, CanUndo, undone}
use Rattle.level_terms.proofs.GrowthLemmas.{grows-refl, grows-trans, keeps_marks}
use Rattle.clause_key.specs.Keys.{key_among}
use Rattle.clause_compile.specs.Instances.{all_read, AllValidAt}
use Rattle.clause_compile.proofs.KeyLemmas.{none-assigned, made-key, taken-back, own-shared}
use Rattle.clause_compile.proofs.keys.own_key.Goals as goal

pub mark-mark-requires : goal.mark-mark-requires
mark-mark-requires c = subst (IsTrailOf c.args.heap.now) (sym c.new-trail.ensures.entries) (none-assigned c.args.heap.now c.is_sound.ensures c.requires.closed)

pub make_head-requires : goal.make_head-requires
make_head-requires c =
    let g = c.args.heap.now in
    (length g.nodes, g.nodes, c.requires.code.0, own-shared g c.is_sound.ensures c.requires.closed, c.requires.code.1)

pub key_of_call-requires : goal.key_of_call-requires
key_of_call-requires c =
    let g = c.args.heap.now in
    let made = c.in_ok-make_head.ensures.head (length g.nodes) g.nodes c.requires.code.0 (own-shared g c.is_sound.ensures c.requires.closed) c.requires.code.1 in
    subst (λ (ts : List TermId). AllValidAt c.make_head.new.heap ts 0) (sym c.as_slice.ensures.value) made.valid

pub returns-in_err-key-clause-grows : goal.returns-in_err-key-clause-grows
returns-in_err-key-clause-grows c = grows-trans c.args.heap.now c.make_head.new.heap c.key_of_call.new.heap [] [] [] c.make_head.ensures.grows c.key_of_call.ensures.grows

pub undo-requires : goal.undo-requires
undo-requires c =
    let grown = grows-trans c.args.heap.now c.make_head.new.heap c.key_of_call.new.heap [] [] [] c.make_head.ensures.grows c.key_of_call.ensures.grows in
    let before = subst (CanUndo c.mark-mark.result c.args.heap.now) c.new-trail.ensures.entries c.mark-mark.ensures.can_undo in
    subst (CanUndo c.mark-mark.result c.key_of_call.new.heap) (sym c.new-trail.ensures.entries) (keeps_marks c.args.heap.now c.key_of_call.new.heap [] [] c.mark-mark.result grown before)

pub returns-clause-key : goal.returns-clause-key
returns-clause-key c = λ k w b.
    let g = c.args.heap.now in
    let made = c.in_ok-make_head.ensures.head (length g.nodes) g.nodes k (own-shared g c.is_sound.ensures c.requires.closed) w in
    c.in_ok-key.ensures.key
    ∙ ap (λ (ts : List TermId). key_among c.args.inputs.now (all_read c.make_head.new.heap ts)) c.as_slice.ensures.value
    ∙ made-key k g c.make_head.new.heap c.make_head.new.instance g.nodes c.args.code.now c.args.inputs.now made w b

pub returns-clause-same : goal.returns-clause-same
returns-clause-same c =
    let grown = grows-trans c.args.heap.now c.make_head.new.heap c.key_of_call.new.heap [] [] [] c.make_head.ensures.grows c.key_of_call.ensures.grows in
    c.undo.ensures.heap ∙ ap (λ m. undone m c.key_of_call.new.heap) c.mark-mark.ensures.now ∙ taken-back c.args.heap.now c.key_of_call.new.heap grown

pub returns-clause-grows : goal.returns-clause-grows
returns-clause-grows c =
    let grown = grows-trans c.args.heap.now c.make_head.new.heap c.key_of_call.new.heap [] [] [] c.make_head.ensures.grows c.key_of_call.ensures.grows in
    let same = c.undo.ensures.heap ∙ ap (λ m. undone m c.key_of_call.new.heap) c.mark-mark.ensures.now ∙ taken-back c.args.heap.now c.key_of_call.new.heap grown in
    subst (λ (h : Graph). Grows c.args.heap.now h [] []) (sym same) (grows-refl c.args.heap.now [])
