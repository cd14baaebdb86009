use Rattle.std.proofs.Common.{◌≤◌, ◌-◌, ◌∙◌, ◌++◌, ◌∷◌, [], true, ap, sym, refl, set, arith}
use Rattle.dance_list.specs.Dance.{nodes, linked, unlinked}
use Rattle.suspend.specs.declared.note.Note.{Note}
use Rattle.suspend.proofs.KeptLemmas.{numbered-at}
use Rattle.suspend.proofs.LedgerLemmas.{joining_undone, leaving_undone, newest-left, marks-many}
use Rattle.suspend.proofs.ledger.Ledger.take_back.Goals as goal

pub invariant_of-self : goal.invariant_of-self
invariant_of-self g c =
    let cut = c.truncate.ensures.rest in
    let node = c.drop_last.ensures in
    let con = c.drop_last-in-Some-Joins.ensures in
    let marked = c.drop_last-in-Some-Joins-2.ensures in
    let room : 1 ≤ c.undo_one.new.self.spare = omega (arith, c.in-Some-Joins.ensures.spare) in
    joining_undone c.self.inside.notes.entries c.undo_one.new.self.entries c.self.inside.notes.spare c.undo_one.new.self.spare c.self.inside.constraints.items c.drop_last-in-Some-Joins.new.items.items c.self.inside.pairs
    c.self.inside.places.items c.drop_last.new.items.items (nodes c.self.inside.list) (nodes c.truncate.new.self) (linked c.self.inside.list) (linked c.truncate.new.self) cut.0 (unlinked c.self.inside.list) (unlinked c.truncate.new.self)
    c.self.inside.watches c.self.inside.standing.items c.drop_last-in-Some-Joins-2.new.items.items con.0 node.0 marked.0
    (c.in-Some-Joins.ensures.newest ∙ ap (λ (n : Note). c.undo_one.new.self.entries ++ n ∷ []) c.in-Some-Joins.field-0-is) con.1 node.1 marked.1 cut.1 cut.2 cut.3 c.truncate.ensures.stack room c.self.invariant

pub overflow_sub-id : goal.overflow_sub-id
overflow_sub-id g c =
    let kept = newest-left c.self.inside.notes.entries c.undo_one.new.self.entries c.self.inside.notes.spare c.self.inside.constraints.items c.self.inside.pairs c.self.inside.places.items (nodes c.self.inside.list) (linked c.self.inside.list) (unlinked c.self.inside.list) c.self.inside.watches c.self.inside.standing.items c.in-Some-Leaves.id
    (c.in-Some-Leaves.ensures.newest ∙ ap (λ (n : Note). c.undo_one.new.self.entries ++ n ∷ []) c.in-Some-Leaves.field-0-is) c.self.invariant in
    (numbered-at c.self.inside.places.items c.in-Some-Leaves.id kept.0.0 kept.0.0 kept.4).0

pub index-node-requires : goal.index-node-requires
index-node-requires g c =
    let kept = newest-left c.self.inside.notes.entries c.undo_one.new.self.entries c.self.inside.notes.spare c.self.inside.constraints.items c.self.inside.pairs c.self.inside.places.items (nodes c.self.inside.list) (linked c.self.inside.list) (unlinked c.self.inside.list) c.self.inside.watches c.self.inside.standing.items c.in-Some-Leaves.id
    (c.in-Some-Leaves.ensures.newest ∙ ap (λ (n : Note). c.undo_one.new.self.entries ++ n ∷ []) c.in-Some-Leaves.field-0-is) c.self.invariant in
    let low = (numbered-at c.self.inside.places.items c.in-Some-Leaves.id kept.0.0 kept.0.0 kept.4).1 in
    omega (arith, low, c.self.inside.places.ok)

pub relink-requires : goal.relink-requires
relink-requires g c =
    let kept = newest-left c.self.inside.notes.entries c.undo_one.new.self.entries c.self.inside.notes.spare c.self.inside.constraints.items c.self.inside.pairs c.self.inside.places.items (nodes c.self.inside.list) (linked c.self.inside.list) (unlinked c.self.inside.list) c.self.inside.watches c.self.inside.standing.items c.in-Some-Leaves.id
    (c.in-Some-Leaves.ensures.newest ∙ ap (λ (n : Note). c.undo_one.new.self.entries ++ n ∷ []) c.in-Some-Leaves.field-0-is) c.self.invariant in
    let same = sym (numbered-at c.self.inside.places.items c.in-Some-Leaves.id kept.0.0 c.index-node.result.now kept.4).2 ∙ sym c.index-node.ensures in
    record { newest = (kept.0, kept.1, same, kept.2, kept.5) }

pub overflow_sub-id-in-Some-Leaves : goal.overflow_sub-id-in-Some-Leaves
overflow_sub-id-in-Some-Leaves g c =
    let kept = newest-left c.self.inside.notes.entries c.undo_one.new.self.entries c.self.inside.notes.spare c.self.inside.constraints.items c.self.inside.pairs c.self.inside.places.items (nodes c.self.inside.list) (linked c.self.inside.list) (unlinked c.self.inside.list) c.self.inside.watches c.self.inside.standing.items c.in-Some-Leaves.id
    (c.in-Some-Leaves.ensures.newest ∙ ap (λ (n : Note). c.undo_one.new.self.entries ++ n ∷ []) c.in-Some-Leaves.field-0-is) c.self.invariant in
    (numbered-at c.self.inside.places.items c.in-Some-Leaves.id kept.0.0 kept.0.0 kept.4).0

pub index_mut-requires : goal.index_mut-requires
index_mut-requires g c =
    let kept = newest-left c.self.inside.notes.entries c.undo_one.new.self.entries c.self.inside.notes.spare c.self.inside.constraints.items c.self.inside.pairs c.self.inside.places.items (nodes c.self.inside.list) (linked c.self.inside.list) (unlinked c.self.inside.list) c.self.inside.watches c.self.inside.standing.items c.in-Some-Leaves.id
    (c.in-Some-Leaves.ensures.newest ∙ ap (λ (n : Note). c.undo_one.new.self.entries ++ n ∷ []) c.in-Some-Leaves.field-0-is) c.self.invariant in
    let low = (numbered-at c.self.inside.places.items c.in-Some-Leaves.id kept.0.0 kept.0.0 kept.4).1 in
    let many = marks-many c.self.inside.notes.entries c.self.inside.notes.spare c.self.inside.constraints.items c.self.inside.pairs c.self.inside.places.items (nodes c.self.inside.list) (linked c.self.inside.list) (unlinked c.self.inside.list) c.self.inside.watches c.self.inside.standing.items c.self.invariant in
    omega (arith, low, many, c.self.inside.standing.ok)

pub invariant_of-self-in-Some-Leaves : goal.invariant_of-self-in-Some-Leaves
invariant_of-self-in-Some-Leaves g c =
    let back = c.relink.ensures.back in
    let room : 1 ≤ c.undo_one.new.self.spare = omega (arith, c.in-Some-Leaves.ensures.spare) in
    leaving_undone c.self.inside.notes.entries c.undo_one.new.self.entries c.self.inside.notes.spare c.undo_one.new.self.spare c.self.inside.constraints.items c.self.inside.pairs c.self.inside.places.items (nodes c.self.inside.list) (nodes c.relink.new.self)
    (linked c.self.inside.list) (linked c.relink.new.self) (unlinked c.self.inside.list) (unlinked c.relink.new.self) c.self.inside.watches c.self.inside.standing.items (set c.self.inside.standing.items (c.in-Some-Leaves.id - 1) true)
    c.in-Some-Leaves.id back.0 (c.in-Some-Leaves.ensures.newest ∙ ap (λ (n : Note). c.undo_one.new.self.entries ++ n ∷ []) c.in-Some-Leaves.field-0-is)
    back.2 back.4 c.relink.ensures.nodes refl room c.self.invariant
