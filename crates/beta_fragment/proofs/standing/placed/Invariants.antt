use Rattle.std.proofs.Common.{◌≡◌, ◌+◌, [], reverse, length}
use Rattle.level_terms.specs.Growth.{Grows}
use Rattle.ref_terms.specs.terms.Term.{Term}
use Rattle.beta_fragment.specs.inside.Standing.{FoundAs}
use Rattle.beta_fragment.proofs.standing.placed.Given as goal

abbrev pub invariant-loop-put : goal.invariant-loop-put
invariant-loop-put l = record {
  found : (u : Term) → FoundAs l.fn.heap l.depth (reverse l.fn.puts.items) u l.fn.form → FoundAs l.heap l.depth (reverse l.puts.items) u l.form;
  long : l.to ≡ l.depth + length l.puts.items;
  variables : l.heap.depths ≡ l.fn.heap.depths;
  grows : Grows l.fn.heap l.heap [] [];
}

abbrev pub decreases-loop-put : goal.decreases-loop-put
decreases-loop-put l = length l.puts.items
