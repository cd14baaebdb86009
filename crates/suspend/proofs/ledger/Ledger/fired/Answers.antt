use Rattle.std.proofs.Common.{◌∙◌, ap, sym, reverse}
use Rattle.std.proofs.lemmas.List.{reverse-reverse}
use Rattle.dance_list.specs.Dance.{linked, unlinked}
use Rattle.suspend.specs.Store.{firings, has_fired}
use Rattle.suspend.proofs.StoreLemmas.{kept-firings}
use Rattle.suspend.proofs.ledger.Ledger.fired.Goals as goal

pub returns : goal.returns
returns g c =
    let all = kept-firings (reverse c.self.inside.notes.entries) (reverse c.self.inside.constraints.items) (reverse c.self.inside.pairs) (reverse c.self.inside.places.items) (linked c.self.inside.list) (unlinked c.self.inside.list) c.self.invariant.kept in
    c.has.ensures ∙ ap (λ fs. has_fired fs c.args.pair.now) (sym (reverse-reverse c.self.inside.pairs) ∙ sym all ∙ ap firings c.self.view_is)
