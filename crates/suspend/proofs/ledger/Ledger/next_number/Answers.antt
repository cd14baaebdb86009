use Rattle.std.proofs.Common.{◌≡◌, ◌∙◌, ap, sym, reverse, length, arith}
use Rattle.std.proofs.lemmas.List.{length-reverse}
use Rattle.dance_list.specs.Dance.{linked, unlinked}
use Rattle.suspend.specs.Store.{added}
use Rattle.suspend.proofs.KeptLemmas.{kept-added}
use Rattle.suspend.proofs.ledger.Ledger.next_number.Goals as goal

pub returns : goal.returns
returns g c =
    let many = kept-added (reverse c.self.inside.notes.entries) (reverse c.self.inside.constraints.items) (reverse c.self.inside.pairs) (reverse c.self.inside.places.items) (linked c.self.inside.list) (unlinked c.self.inside.list) c.self.invariant.kept in
    let count : added c.args.self.now ≡ length c.self.inside.constraints.items = sym (ap added c.self.view_is) ∙ many ∙ length-reverse c.self.inside.constraints.items in
    omega (arith, c.len.ensures, c.self.inside.constraints.ok, count)
