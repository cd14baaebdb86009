use Rattle.std.proofs.Common.{◌≡◌, ℕ, List, map, drop}
use Rattle.std.specs.Prelude.{IsTrue, flat_map}
use Rattle.lp_resolve.specs.Symbols.{interned_all, Begins}
use Rattle.lp_resolve.specs.Texts.{texts_of}
use Rattle.lp_resolve.specs.Trees.{as_term, shape, all_fit}
use Rattle.lp_resolve.specs.Reading.{Readings, read_all, reading}
use Rattle.lp_resolve.proofs.ReadingSteps.{after_terms}
use Rattle.lp_resolve.proofs.read.+read.Given as goal

-- the trees so far, before those of the terms that are left, are what all are read as
abbrev pub invariant-read_all-loop-term : goal.invariant-read_all-loop-term
invariant-read_all-loop-term l = record {
  fit : IsTrue (all_fit (map shape l.trees));
  begins : Begins l.initial.symbols l.symbols;
  scope : l.scope ≡ l.initial.scope;
  table : interned_all l.symbols (flat_map texts_of (drop l.term-index l.term-items)) ≡ interned_all l.initial.symbols (flat_map texts_of l.term-items);
  reads : (later : List (List ℕ)) → Begins l.symbols later
      → after_terms (map as_term l.trees) (read_all (map (reading later) (drop l.term-index l.term-items)) l.scope l.variables)
      ≡ read_all (map (reading later) l.term-items) l.initial.scope l.initial.variables;
}
