-- The index of a program, and what is left of a call's candidates.
use Rattle.std.specs.Prelude.{◌≡◌, ℕ, Bool, ◌&&◌, not, List}
use Rattle.ref_terms.specs.search.Program.{Program, Clause, headed_by}
use Rattle.clause_key.specs.Keys.{atom_key, fits_every, same_key}
use Rattle.clause_key.specs.Passing.{numbers_of}
use Rattle.clause_index.specs.declared.lists.Group.{Group}
use Rattle.clause_index.specs.declared.lists.Group.TheVariants.{Every, Loose, Keyed}
use Rattle.clause_index.specs.declared.index.Index.{Index}
use Rattle.clause_index.specs.declared.cands.Cands.{Cands}
use Rattle.clause_index.specs.inside.Lists.{list_of, IsPaired}
use Rattle.clause_index.specs.inside.Runs.{run_in, merged}

-- whether a clause is one of a group
abbrev pub is_among : Program → Group → Clause → Bool
is_among p (Every c) k = headed_by c.0 k.head
is_among p (Loose c) k = headed_by c.0 k.head && fits_every (atom_key p k.head)
is_among p (Keyed c key) k = headed_by c.0 k.head && not (fits_every (atom_key p k.head)) && same_key key (atom_key p k.head)

-- the index has for each group the numbers of its clauses, in text order
pub record IsIndexOf (p : Program) (index : Index) : Type 0 where
  pub paired : IsPaired index.lists
  pub lists : (g : Group) → list_of index.lists g ≡ numbers_of (is_among p g) 0 p.clauses

-- the candidates that are left
abbrev pub left_of : Index → Cands → List ℕ
left_of index cands = merged (run_in index.lists cands.own) (run_in index.lists cands.loose)
