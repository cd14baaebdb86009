-- What calls make in the heap of a query.
use Rattle.std.specs.Prelude.{◌≡◌, length, replicate}
use Rattle.ref_terms.specs.search.Program.{Query}
use Rattle.level_terms.specs.Graph.{Graph}
use Rattle.level_terms.specs.Reading.{read}
use Rattle.level_terms.specs.Valid.{IsValid}
use Rattle.clause_compile.specs.Instances.{names, AreFresh}
use Rattle.clause_compile.specs.declared.query.QueryInstance.{QueryInstance}

-- The query was made at no names: its goal reads as the query's, and its variables, the only ones of the heap, have the query's numbers.
pub record IsQueryOf (q : Query) (g : Graph) (made : QueryInstance) : Type 0 where
  pub goal : read g made.goal.index names ≡ q.goal
  pub valid : IsValid g made.goal.index 0
  pub fresh : AreFresh g 0 0 (length q.variables) made.variables.items
  pub depths : g.depths ≡ replicate (length q.variables) 0
