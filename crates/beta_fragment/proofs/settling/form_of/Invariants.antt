use Rattle.std.proofs.Common.{◌≡◌, ◌<◌, length, []}
use Rattle.level_terms.specs.Growth.{Grows}
use Rattle.beta_fragment.specs.inside.Cells.{terms_of, term_at}
use Rattle.beta_fragment.specs.inside.Settled.{IsUnwound}
use Rattle.beta_fragment.proofs.settling.form_of.Given as goal

abbrev pub invariant-loop-f : goal.invariant-loop-f
invariant-loop-f l = record {
  there : l.head < length (terms_of l.cells);
  unwound : IsUnwound l.heap l.depth (term_at (terms_of l.cells) l.fn.t) (term_at (terms_of l.cells) l.head) l.args.items;
  variables : l.heap.depths ≡ l.fn.heap.depths;
  grows : Grows l.fn.heap l.heap [] [];
}

abbrev pub decreases-loop-f : goal.decreases-loop-f
decreases-loop-f l = l.head
