use Rattle.std.proofs.Common.{◌∙◌, ◌∷◌, inl, ap, reverse}
use Rattle.suspend.specs.declared.note.Note.TheVariants.{Doubts}
use Rattle.suspend.specs.Store.{doubts}
use Rattle.suspend.proofs.LedgerLemmas.{told-noted}
use Rattle.suspend.proofs.ledger.Ledger.doubt.Goals as goal

pub returns : goal.returns
returns g c =
    let log = told-noted Doubts c.self.inside.notes.entries c.note.new.self.entries (reverse c.self.inside.constraints.items) (reverse c.self.inside.pairs) c.note.ensures.entries ∙ ap (λ xs. doubts ∷ xs) c.self.view_is in
    (c.args.self.now, log, inl log)
