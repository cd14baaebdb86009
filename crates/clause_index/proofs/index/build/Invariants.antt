use Rattle.std.proofs.Common.{◌≡◌, ℕ, take}
use Rattle.level_terms.specs.Graph.{Graph}
use Rattle.ref_terms.specs.search.Program.{Program}
use Rattle.clause_key.specs.Passing.{numbers_of}
use Rattle.clause_compile.specs.Programs.{IsCode}
use Rattle.clause_index.specs.declared.lists.Group.{Group}
use Rattle.clause_index.specs.inside.Lists.{list_of, IsPaired}
use Rattle.clause_index.specs.Index.{is_among}
use Rattle.clause_index.proofs.index.build.Given as goal

abbrev pub invariant-loop-clause : goal.invariant-loop-clause
invariant-loop-clause l = record {
  paired : IsPaired l.lists;
  lists : (n : ℕ) (g : Graph) (p : Program) → IsCode n g l.code p → (h : Group) → list_of l.lists h ≡ numbers_of (is_among p h) 0 (take l.clause p.clauses);
}
