-- Lines of an answer block.
use Rattle.std.specs.Prelude.{ℕ, List, [], ◌∷◌, ◌++◌, map, codes}
use Rattle.ref_terms.specs.terms.Term.{Term}
use Rattle.ref_terms.specs.texts.Text.{Part, Bytes, symbol}
use Rattle.ref_terms.specs.texts.Answer.{indented, term_line, variable_lines}
use Rattle.term_print.specs.Written.{Prints}
use Rattle.term_print.specs.Pieces.{page}
use Rattle.lp_resolve.specs.declared.query.QueryVar.{QueryVar}
use Rattle.lp_resolve.specs.Plain.{plain_variable}
use Rattle.ref_terms.specs.search.Branch.{Constraint}
use Rattle.goal_run.specs.declared.page.Page.{Page}
use Rattle.goal_run.specs.inside.Suspended.{suspended_lines}

-- the line of a variable with its term
abbrev pub value_line : List (List ℕ) → (name : ℕ) → Term → List Part
value_line table name t = indented (Bytes (symbol table name ++ codes " = ") ∷ term_line table t)

-- the lines of the shown variables of a query with their terms
abbrev pub lines_of : List (List ℕ) → List QueryVar → List Term → List Part
lines_of table vs ts = variable_lines table (map plain_variable vs) ts

-- the text of these parts was put last, its variables numbered after those that were seen
abbrev pub Adds : (text seen : List ℕ) → List Part → (text' seen' : List ℕ) → Type 0
Adds text seen ps text' seen' = Prints (page text seen) ps (page text' seen') []

-- the lines of the query's variables with these terms, and those of these constraints, were put last
abbrev pub Writes : Page → List Term → List Constraint → Page → Type 0
Writes old ts cs new = Adds old.text old.namer (lines_of old.symbols.now old.variables.now ts ++ suspended_lines old.symbols.now cs) new.text new.namer
