use Rattle.std.proofs.Common.{arith, map}
use Rattle.lp_resolve.specs.Occurrences.{walked}
use Rattle.lp_resolve.proofs.OccurrenceLemmas.{length-occurrences-ap}
use Rattle.lp_resolve.proofs.occurrences.+counted.Goals as goal

pub count_variables-returns-in_ok-count_all-in-Ap : goal.count_variables-returns-in_ok-count_all-in-Ap
count_variables-returns-in_ok-count_all-in-Ap t c =
    let front = c.in_ok-count_at_head-in-Ap.ensures (map (λ a. a.name) (map walked c.in-Ap.args)) in
    grind (arith, front, c.in-Ap.is, c.in_ok-count_all-in-Ap.ensures, c.as_slice.ensures, length-occurrences-ap c.in-Ap.head c.in-Ap.args)
