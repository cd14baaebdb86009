use Rattle.std.proofs.Common.{◌≤◌, ◌∙◌, ◌++◌, ◌∷◌, [], ap, sym, reverse, arith}
use Rattle.std.proofs.lemmas.List.{reverse-reverse}
use Rattle.dance_list.specs.Dance.{nodes, linked, unlinked}
use Rattle.suspend.specs.declared.note.Note.TheVariants.{Fires}
use Rattle.suspend.specs.Store.{firings, has_fired}
use Rattle.suspend.proofs.StoreLemmas.{kept-firings}
use Rattle.suspend.proofs.LedgerLemmas.{fired}
use Rattle.suspend.proofs.ledger.Ledger.fire.Goals as goal

pub push-requires : goal.push-requires
push-requires g c =
    let all = kept-firings (reverse c.self.inside.notes.entries) (reverse c.self.inside.constraints.items) (reverse c.self.inside.pairs) (reverse c.self.inside.places.items) (linked c.self.inside.list) (unlinked c.self.inside.list) c.self.invariant.kept in
    ap (λ fs. has_fired fs c.args.pair) (sym (reverse-reverse c.self.inside.pairs) ∙ sym all ∙ ap firings c.self.view_is) ∙ c.requires

pub invariant_of-self-2 : goal.invariant_of-self-2
invariant_of-self-2 g c =
    let room : 1 ≤ c.note.new.self.spare = omega (arith, c.note.ensures.spare, c.in_ok-reserve.ensures.room) in
    fired c.self.inside.notes.entries c.note.new.self.entries c.self.inside.notes.spare c.note.new.self.spare c.self.inside.constraints.items c.self.inside.pairs c.push.new.self c.self.inside.places.items (nodes c.self.inside.list)
    (linked c.self.inside.list) (unlinked c.self.inside.list) c.self.inside.watches c.self.inside.standing.items c.args.pair
    (c.note.ensures.entries ∙ ap (λ xs. xs ++ Fires ∷ []) c.in_ok-reserve.ensures.entries) c.in_ok-push.ensures.ok room c.self.invariant
