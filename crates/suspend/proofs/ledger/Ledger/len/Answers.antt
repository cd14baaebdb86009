use Rattle.std.proofs.Common.{◌∙◌, ap, sym, reverse, length}
use Rattle.dance_list.specs.Dance.{linked, unlinked}
use Rattle.suspend.proofs.StoreLemmas.{told-length}
use Rattle.suspend.proofs.ledger.Ledger.len.Goals as goal

pub returns : goal.returns
returns g c =
    let size = told-length c.self.inside.notes.entries (reverse c.self.inside.constraints.items) (reverse c.self.inside.pairs) (reverse c.self.inside.places.items) (linked c.self.inside.list) (unlinked c.self.inside.list) c.self.invariant.kept in
    c.len.ensures ∙ sym size ∙ ap length c.self.view_is
