-- What the reading of terms answers.
use Rattle.std.specs.Prelude.{◌≡◌, ℕ, List, [], map, IsTrue}
use Rattle.lp_parser.specs.declared.ast.AstTerm.{AstTerm}
use Rattle.ref_terms.specs.declared.tree.Tree.{Tree}
use Rattle.lp_resolve.specs.Symbols.{Begins}
use Rattle.lp_resolve.specs.Variables.{Met}
use Rattle.lp_resolve.specs.Trees.{as_term, shape, all_fit}
use Rattle.lp_resolve.specs.Reading.{Reading, Readings, Reader, read_all, reading}

-- The tree, and the variables that were met up to its end, are what is read over this table of symbols and over each
-- later one.
pub record IsReadBy (reader : List (List ℕ) → Reader) (table : List (List ℕ)) (scope : List ℕ) (met after : Met) (tree : Tree) : Type 0 where
  pub fits : IsTrue (shape tree).fits
  pub reads : (later : List (List ℕ)) → Begins table later → reader later scope met ≡ record { term = as_term tree; met = after }

-- so for a term
abbrev pub IsRead : (table : List (List ℕ)) → (scope : List ℕ) → (met : Met) → AstTerm → (after : Met) → Tree → Type 0
IsRead table scope met t after tree = IsReadBy (λ later. reading later t) table scope met after tree

-- so for terms one after another
pub record AreRead (table : List (List ℕ)) (scope : List ℕ) (met : Met) (ts : List AstTerm) (after : Met) (trees : List Tree) : Type 0 where
  pub fit : IsTrue (all_fit (map shape trees))
  pub reads : (later : List (List ℕ)) → Begins table later → read_all (map (reading later) ts) scope met ≡ record { terms = map as_term trees; met = after }
