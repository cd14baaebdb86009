use Rattle.std.proofs.Common.{◌≡◌, false, [], ◌∷◌, ◌++◌, reverse}
use Rattle.level_terms.specs.Growth.{Grows}
use Rattle.level_terms.specs.Reading.{read}
use Rattle.beta_fragment.specs.Names.{names}
use Rattle.pattern_unify.specs.inside.Searching.{searching, verdict_on, first_verdict, AllSearchable, search_size}
use Rattle.pattern_unify.proofs.offence.search.Given as goal

abbrev pub invariant-loop-work : goal.invariant-loop-work
invariant-loop-work l = record {
  searchable : AllSearchable (searching l.mark.index l.x.index l.ns l.base) l.heap (reverse (l.work.items ++ l.at ∷ []));
  verdict : verdict_on (searching l.mark.index l.x.index l.ns l.base) l.depth false (read l.fn.heap l.fn.t.index names) ≡ first_verdict (searching l.mark.index l.x.index l.ns l.base) l.heap (reverse (l.work.items ++ l.at ∷ []));
  variables : l.heap.depths ≡ l.fn.heap.depths;
  grows : Grows l.fn.heap l.heap [] [];
}

abbrev pub decreases-loop-work : goal.decreases-loop-work
decreases-loop-work l = search_size l.heap (reverse (l.work.items ++ l.at ∷ []))
