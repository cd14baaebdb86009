-- What a parsed query is read as.
use Rattle.std.specs.Prelude.{◌≡◌, ℕ, Bool, true, false, not, nat_eq, List, [], ◌∷◌, map, length, slice_index_or}
use Rattle.lp_parser.specs.declared.ast.AstTerm.{AstTerm}
use Rattle.lp_parser.specs.declared.ast.AstGoal.{AstGoal}
use Rattle.lp_resolve.specs.declared.query.Query.{Query}
use Rattle.lp_resolve.specs.declared.query.QueryVar.{QueryVar}
use Rattle.lp_resolve.specs.declared.variable.Variable.{Variable}
use Rattle.lp_resolve.specs.Symbols.{begins_low}
use Rattle.lp_resolve.specs.Variables.{nothing_met}
use Rattle.lp_resolve.specs.Reading.{Reading, reading}
use Rattle.lp_resolve.specs.Treed.{tree_of}
use Rattle.lp_resolve.specs.Trees.{IsFormed}

-- a variable of a query, which is shown where its word doesn't begin with `_`
abbrev pub query_var : (table : List (List ℕ)) → Variable → QueryVar
query_var table v = record { name = v.name; shown = not (begins_low (slice_index_or table v.name.0 [])) }

-- the query of what was read
abbrev pub query_at : (table : List (List ℕ)) → Reading → Query
query_at table read = record { vars = map (query_var table) read.met.names; goal = tree_of read.term }

-- the query of a goal, over the table of the symbols' texts
abbrev pub query_of : (table : List (List ℕ)) → AstGoal → Query
query_of table goal = query_at table (reading table goal.term [] nothing_met)

-- the query's goal is well formed over its variables
abbrev pub IsFormedQuery : Query → Type 0
IsFormedQuery query = IsFormed (length query.vars) 0 query.goal
