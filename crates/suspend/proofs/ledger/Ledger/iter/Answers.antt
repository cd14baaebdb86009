use Rattle.std.proofs.Common.{◌≡◌, ◌∙◌, ap, sym, subst, reverse}
use Rattle.dance_list.specs.Dance.{linked, unlinked}
use Rattle.suspend.specs.Store.{stored}
use Rattle.suspend.specs.inside.Kept.{told}
use Rattle.suspend.specs.inside.Given.{given, AllStored}
use Rattle.suspend.proofs.KeptLemmas.{kept-alike, alike-stored, alike-given}
use Rattle.suspend.proofs.ledger.Ledger.iter.Goals as goal

pub invariant_of-result : goal.invariant_of-result
invariant_of-result g c =
    let notes = reverse c.self.inside.notes.entries in
    let log = told (reverse c.self.inside.notes.entries) (reverse c.self.inside.constraints.items) (reverse c.self.inside.pairs) in
    let alike = kept-alike (reverse c.self.inside.notes.entries) (reverse c.self.inside.constraints.items) (reverse c.self.inside.pairs) (reverse c.self.inside.places.items) (linked c.self.inside.list) (unlinked c.self.inside.list) c.self.invariant.kept in
    subst (λ ls. AllStored c.args.self.now ls) (sym c.iter.ensures)
    (subst (λ z. AllStored z (linked c.self.inside.list)) c.self.view_is (alike-stored log (reverse c.self.inside.constraints.items) (reverse c.self.inside.places.items) (linked c.self.inside.list) alike))

pub returns : goal.returns
returns g c =
    let log = told (reverse c.self.inside.notes.entries) (reverse c.self.inside.constraints.items) (reverse c.self.inside.pairs) in
    let alike = kept-alike (reverse c.self.inside.notes.entries) (reverse c.self.inside.constraints.items) (reverse c.self.inside.pairs) (reverse c.self.inside.places.items) (linked c.self.inside.list) (unlinked c.self.inside.list) c.self.invariant.kept in
    ap (given (stored c.args.self.now)) c.iter.ensures
    ∙ subst (λ z. given (stored z) (linked c.self.inside.list) ≡ stored z) c.self.view_is (alike-given (reverse c.self.inside.constraints.items) (reverse c.self.inside.places.items) (linked c.self.inside.list) (stored log) alike)
