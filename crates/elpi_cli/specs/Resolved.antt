-- What the items of a program and the goal of a query are resolved to, and what the search runs of them.
use Rattle.std.specs.Prelude.{ℕ, List}
use Rattle.lp_parser.specs.declared.ast.AstTerm.{AstTerm}
use Rattle.lp_parser.specs.declared.ast.Item.{Item}
use Rattle.lp_resolve.specs.declared.program.Program.{Program}
use Rattle.lp_resolve.specs.declared.query.Query.{Query}
use Rattle.lp_resolve.specs.Symbols.{reserved_names, interned_all}
use Rattle.lp_resolve.specs.Texts.{texts_of}
use Rattle.lp_resolve.specs.ProgramTexts.{program_texts}
use Rattle.lp_resolve.specs.ProgramReading.{program_of}
use Rattle.lp_resolve.specs.Queries.{query_of}
use Rattle.lp_resolve.specs.Plain.{plain_program, plain_query}
use Rattle.ref_terms.specs.search.Program as plain

-- the table of a program: the reserved names, and then its texts
abbrev pub program_table : List Item → List (List ℕ)
program_table items = interned_all reserved_names (program_texts items)

-- the program of the items
abbrev pub resolved_program : List Item → Program
resolved_program items = program_of (program_table items) items

-- the table of a program and a query
abbrev pub query_table : List Item → AstTerm → List (List ℕ)
query_table items goal = interned_all (program_table items) (texts_of goal)

-- the query of the goal, when it is asked of the program of the items
abbrev pub resolved_query : List Item → AstTerm → Query
resolved_query items goal = query_of (query_table items goal) (record { term = goal })

-- the program that the search runs, when this goal is asked
abbrev pub searched_program : List Item → AstTerm → plain.Program
searched_program items goal = plain_program (query_table items goal) (resolved_program items)

-- the query that the search runs
abbrev pub searched_query : List Item → AstTerm → plain.Query
searched_query items goal = plain_query (resolved_query items goal)
