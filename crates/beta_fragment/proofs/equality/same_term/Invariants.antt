use Rattle.std.proofs.Common.{◌≡◌}
use Rattle.level_terms.specs.Reading.{read}
use Rattle.beta_fragment.specs.Names.{names}
use Rattle.beta_fragment.specs.inside.Pairs.{AllValidPairs, AllSame, pairs_size}
use Rattle.beta_fragment.proofs.equality.same_term.Given as goal

abbrev pub invariant-loop-pair : goal.invariant-loop-pair
invariant-loop-pair l = record {
  valid : AllValidPairs l.heap l.work.items;
  whole : AllSame l.heap l.work.items → read l.heap l.fn.s.index names ≡ read l.heap l.fn.t.index names;
  each : read l.heap l.fn.s.index names ≡ read l.heap l.fn.t.index names → AllSame l.heap l.work.items;
}

abbrev pub decreases-loop-pair : goal.decreases-loop-pair
decreases-loop-pair l = pairs_size l.heap l.work.items
