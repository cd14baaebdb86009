use Rattle.sequent_rules.proofs.ItemLemmas.{form_size}
use Rattle.sequent_rules.proofs.ListingLemmas.{IsListing}
use Rattle.sequent_rules.proofs.lists.items.Given as goal

-- the items so far, and what the form shows of the others
abbrev pub invariant-loop-form : goal.invariant-loop-form
invariant-loop-form l = IsListing l.fn.heap l.depth l.fn.list l.heap l.items l.form

abbrev pub decreases-loop-form : goal.decreases-loop-form
decreases-loop-form l = form_size l.heap l.form
