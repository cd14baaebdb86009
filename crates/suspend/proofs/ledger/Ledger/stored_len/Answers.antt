use Rattle.std.proofs.Common.{◌∙◌, ap, reverse, length}
use Rattle.dance_list.specs.Dance.{linked, unlinked}
use Rattle.suspend.specs.Store.{stored}
use Rattle.suspend.specs.inside.Kept.{told}
use Rattle.suspend.proofs.KeptLemmas.{kept-alike, alike-length}
use Rattle.suspend.proofs.ledger.Ledger.stored_len.Goals as goal

pub returns : goal.returns
returns g c =
    let log = told (reverse c.self.inside.notes.entries) (reverse c.self.inside.constraints.items) (reverse c.self.inside.pairs) in
    let alike = kept-alike (reverse c.self.inside.notes.entries) (reverse c.self.inside.constraints.items) (reverse c.self.inside.pairs) (reverse c.self.inside.places.items) (linked c.self.inside.list) (unlinked c.self.inside.list) c.self.invariant.kept in
    c.len.ensures ∙ alike-length (reverse c.self.inside.constraints.items) (reverse c.self.inside.places.items) (linked c.self.inside.list) (stored log) alike ∙ ap (λ z. length (stored z)) c.self.view_is
