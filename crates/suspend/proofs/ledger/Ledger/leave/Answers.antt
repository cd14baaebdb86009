use Rattle.std.proofs.Common.{◌≤◌, ◌-◌, ◌∙◌, ◌++◌, ◌∷◌, [], false, ap, sym, refl, subst, reverse, set, arith, Some}
use Rattle.dance_list.specs.Dance.{nodes, linked, unlinked, IsEachOnce}
use Rattle.suspend.specs.declared.note.Note.TheVariants.{Leaves}
use Rattle.suspend.specs.Store.{is_stored}
use Rattle.suspend.proofs.KeptLemmas.{numbered-at}
use Rattle.suspend.proofs.StoreLemmas.{leaving-stands}
use Rattle.suspend.proofs.LedgerLemmas.{left}
use Rattle.suspend.proofs.ledger.Ledger.leave.Goals as goal

pub index-node-requires : goal.index-node-requires
index-node-requires g c =
    let at = leaving-stands (reverse c.self.inside.notes.entries) (reverse c.self.inside.constraints.items) (reverse c.self.inside.pairs) (reverse c.self.inside.places.items) (linked c.self.inside.list) (unlinked c.self.inside.list) c.args.id c.self.invariant.kept
    (ap (λ log. is_stored log c.args.id) c.self.view_is ∙ c.requires) in
    let low = (numbered-at c.self.inside.places.items c.args.id at.node at.node at.at).1 in
    omega (arith, low, c.self.inside.places.ok)

pub unlink-requires : goal.unlink-requires
unlink-requires g c =
    let at = leaving-stands (reverse c.self.inside.notes.entries) (reverse c.self.inside.constraints.items) (reverse c.self.inside.pairs) (reverse c.self.inside.places.items) (linked c.self.inside.list) (unlinked c.self.inside.list) c.args.id c.self.invariant.kept
    (ap (λ log. is_stored log c.args.id) c.self.view_is ∙ c.requires) in
    let same = sym (numbered-at c.self.inside.places.items c.args.id at.node c.index-node.result.now at.at).2 ∙ sym c.index-node.ensures in
    record { linked = ((at.node, c.args.id, at.before, at.after), same, at.split) }

pub invariant_of-self-2 : goal.invariant_of-self-2
invariant_of-self-2 g c =
    let at = leaving-stands (reverse c.self.inside.notes.entries) (reverse c.self.inside.constraints.items) (reverse c.self.inside.pairs) (reverse c.self.inside.places.items) (linked c.self.inside.list) (unlinked c.self.inside.list) c.args.id c.self.invariant.kept
    (ap (λ log. is_stored log c.args.id) c.self.view_is ∙ c.requires) in
    let out = c.unlink.ensures.left in
    let once = subst IsEachOnce c.self.invariant.nodes c.is_sound.ensures.once in
    let node = at.at ∙ ap Some (sym (numbered-at c.self.inside.places.items c.args.id at.node c.index-node.result.now at.at).2 ∙ sym c.index-node.ensures) in
    let room : 1 ≤ c.note.new.self.spare = omega (arith, c.note.ensures.spare, c.in_ok-reserve.ensures.room) in
    left c.self.inside.notes.entries c.note.new.self.entries c.self.inside.notes.spare c.note.new.self.spare c.self.inside.constraints.items c.self.inside.pairs c.self.inside.places.items (nodes c.self.inside.list) (nodes c.unlink.new.self)
    (linked c.self.inside.list) (linked c.unlink.new.self) (unlinked c.self.inside.list) (unlinked c.unlink.new.self) c.self.inside.watches c.self.inside.standing.items (set c.self.inside.standing.items (c.args.id - 1) false)
    c.args.id out.0 c.index-node.result.now once node out.1 out.2 out.3 out.4
    (c.note.ensures.entries ∙ ap (λ xs. xs ++ Leaves c.args.id ∷ []) c.in_ok-reserve.ensures.entries) c.unlink.ensures.nodes refl room c.self.invariant
