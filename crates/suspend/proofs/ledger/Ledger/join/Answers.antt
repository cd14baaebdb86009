use Rattle.std.proofs.Common.{◌≡◌, ◌≤◌, ◌∙◌, ◌+◌, ◌++◌, ◌∷◌, [], true, suc, ap, ap₂, sym, reverse, length, arith}
use Rattle.dance_list.specs.Dance.{nodes, linked, unlinked}
use Rattle.suspend.specs.declared.note.Note.TheVariants.{Joins}
use Rattle.suspend.specs.Store.{joins, added}
use Rattle.suspend.specs.inside.Kept.{told}
use Rattle.suspend.proofs.StoreLemmas.{joined-told, joined-number}
use Rattle.suspend.proofs.LedgerLemmas.{joined}
use Rattle.suspend.proofs.ledger.Ledger.join.Goals as goal

pub invariant_of-self-in-Ok-push_back : goal.invariant_of-self-in-Ok-push_back
invariant_of-self-in-Ok-push_back g c =
    let size = ap length c.in-Ok.ensures.constraints in
    let number : c.len.result + 1 ≡ suc (length c.self.inside.constraints.items) = omega (arith, c.len.ensures, size, c.make_room.new.constraints.ok) in
    let room : 1 ≤ c.note.new.self.spare = omega (arith, c.note.ensures.spare, c.in-Ok.ensures.room) in
    joined c.self.inside.notes.entries c.note.new.self.entries c.self.inside.notes.spare c.note.new.self.spare c.self.inside.constraints.items c.push_reserved-in-Ok-push_back-2.new.self.items c.self.inside.pairs
    c.self.inside.places.items c.push_reserved.new.self.items (nodes c.self.inside.list) (nodes c.push_back.new.self) (linked c.self.inside.list) (linked c.push_back.new.self) (unlinked c.self.inside.list) (unlinked c.push_back.new.self)
    c.self.inside.watches c.self.inside.standing.items c.push_reserved-in-Ok-push_back.new.self.items c.args.c c.in-Ok-push_back.node (c.len.result + 1)
    (c.note.ensures.entries ∙ ap (λ xs. xs ++ Joins ∷ []) c.in-Ok.ensures.notes)
    (c.push_reserved-in-Ok-push_back-2.ensures.items ∙ ap (λ xs. xs ++ c.args.c ∷ []) c.in-Ok.ensures.constraints)
    (c.push_reserved.ensures.items ∙ ap (λ xs. xs ++ c.in-Ok-push_back.node ∷ []) c.in-Ok.ensures.places)
    (c.push_reserved-in-Ok-push_back.ensures.items ∙ ap (λ xs. xs ++ true ∷ []) c.in-Ok.ensures.standing)
    c.in-Ok-push_back.ensures.ok.0 c.in-Ok-push_back.ensures.ok.1 c.in-Ok-push_back.ensures.stack number room c.self.invariant

pub returns-in-Ok-push_back-clause-ok : goal.returns-in-Ok-push_back-clause-ok
returns-in-Ok-push_back-clause-ok g c =
    let notes = c.note.ensures.entries ∙ ap (λ xs. xs ++ Joins ∷ []) c.in-Ok.ensures.notes in
    let cs = c.push_reserved-in-Ok-push_back-2.ensures.items ∙ ap (λ xs. xs ++ c.args.c ∷ []) c.in-Ok.ensures.constraints in
    let size = ap length c.in-Ok.ensures.constraints in
    let number : c.len.result + 1 ≡ suc (length c.self.inside.constraints.items) = omega (arith, c.len.ensures, size, c.make_room.new.constraints.ok) in
    let log = ap₂ (λ a b. told (reverse a) (reverse b) (reverse c.self.inside.pairs)) notes cs ∙ joined-told c.self.inside.notes.entries c.self.inside.constraints.items (reverse c.self.inside.pairs) c.args.c in (
      number ∙ sym (ap added log ∙ joined-number c.self.inside.notes.entries c.self.inside.constraints.items (reverse c.self.inside.pairs) c.self.inside.places.items (linked c.self.inside.list) (unlinked c.self.inside.list) c.args.c c.self.invariant.kept),
      log ∙ ap (λ xs. joins c.args.c ∷ xs) c.self.view_is,
    )
