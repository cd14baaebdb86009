use Rattle.std.proofs.Common.{◌∷◌, reverse, sym, subst}
use Rattle.search_moves.specs.declared.frame.Saved.{Saved}
use Rattle.search_moves.specs.Saved.{AllSaved, HasLeft}
use Rattle.search_moves.proofs.MachineLemmas.{saved-now}
use Rattle.search_moves.proofs.machine.Machine.here.Goals as goal

pub returns-clause-can_go_back : goal.returns-clause-can_go_back
returns-clause-can_go_back c = λ left there.
    let a : Saved = record { mark = c.mark.result; first = c.self.inside.first; left = left } in
    subst (λ m. AllSaved m.world (a ∷ m.saved)) c.self.view_is
    (saved-now c.self.inside.stage a (reverse c.self.inside.choices) c.mark.ensures.now c.mark.ensures.closed c.self.invariant.fine (subst (λ m. HasLeft m.world m.first left) (sym c.self.view_is) there) c.self.invariant.saved)
