use Rattle.std.proofs.Common.{◌∙◌, ap, sym, reverse, arith, Some}
use Rattle.dance_list.specs.Dance.{linked, unlinked}
use Rattle.suspend.specs.Store.{stored, stored_at, is_stored}
use Rattle.suspend.proofs.KeptLemmas.{numbered-at}
use Rattle.suspend.proofs.StoreLemmas.{stored-found}
use Rattle.suspend.proofs.ledger.Ledger.get.Goals as goal

pub overflow_sub-id : goal.overflow_sub-id
overflow_sub-id g c =
    let found = stored-found (reverse c.self.inside.notes.entries) (reverse c.self.inside.constraints.items) (reverse c.self.inside.pairs) (reverse c.self.inside.places.items) (linked c.self.inside.list) (unlinked c.self.inside.list) c.args.id c.self.invariant.kept
    (ap (λ log. is_stored log c.args.id) c.self.view_is ∙ c.requires) in
    (numbered-at c.self.inside.constraints.items c.args.id found.0 found.0 found.1).0

pub index-requires : goal.index-requires
index-requires g c =
    let found = stored-found (reverse c.self.inside.notes.entries) (reverse c.self.inside.constraints.items) (reverse c.self.inside.pairs) (reverse c.self.inside.places.items) (linked c.self.inside.list) (unlinked c.self.inside.list) c.args.id c.self.invariant.kept
    (ap (λ log. is_stored log c.args.id) c.self.view_is ∙ c.requires) in
    let low = (numbered-at c.self.inside.constraints.items c.args.id found.0 found.0 found.1).1 in
    omega (arith, low, c.self.inside.constraints.ok)

pub returns : goal.returns
returns g c =
    let found = stored-found (reverse c.self.inside.notes.entries) (reverse c.self.inside.constraints.items) (reverse c.self.inside.pairs) (reverse c.self.inside.places.items) (linked c.self.inside.list) (unlinked c.self.inside.list) c.args.id c.self.invariant.kept
    (ap (λ log. is_stored log c.args.id) c.self.view_is ∙ c.requires) in
    let here = (numbered-at c.self.inside.constraints.items c.args.id found.0 c.index.result.now found.1).2 in
    ap (λ log. stored_at (stored log) c.args.id) (sym c.self.view_is) ∙ found.2 ∙ ap Some (sym here ∙ sym c.index.ensures)
