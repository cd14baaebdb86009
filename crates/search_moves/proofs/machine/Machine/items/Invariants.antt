use Rattle.search_moves.proofs.ItemLemmas.{form_size}
use Rattle.search_moves.proofs.ListingLemmas.{IsListing}
use Rattle.search_moves.proofs.machine.Machine.items.Given as goal

-- the items so far, and what the form shows of the others
abbrev pub invariant-loop-form : goal.invariant-loop-form
invariant-loop-form l = IsListing l.fn.self l.goal l.fn.list l.self l.items l.form

abbrev pub decreases-loop-form : goal.decreases-loop-form
decreases-loop-form l = form_size l.self.world.heap l.form
