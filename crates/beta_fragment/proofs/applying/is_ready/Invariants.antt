use Rattle.std.proofs.Common.{◌≡◌, ◌<◌, length}
use Rattle.ref_terms.specs.terms.Ready.{ready}
use Rattle.beta_fragment.specs.inside.Cells.{terms_of, term_at}
use Rattle.beta_fragment.proofs.applying.is_ready.Given as goal

abbrev pub invariant-loop-f : goal.invariant-loop-f
invariant-loop-f l = record {
  there : l.head < length (terms_of l.cells);
  same : ready (term_at (terms_of l.cells) l.head) ≡ ready (term_at (terms_of l.cells) l.t);
}

abbrev pub decreases-loop-f : goal.decreases-loop-f
decreases-loop-f l = l.head
