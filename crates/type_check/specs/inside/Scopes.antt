-- What is demanded of the types of constants and variables, as a demand on nodes.
use Rattle.std.specs.Prelude.{ℕ, List, map}
use Rattle.type_graph.specs.Types.{Ty}
use Rattle.type_terms.specs.declared.scope.Scope.{Scope}

abbrev pub At : Scope → (List Ty → List Ty → Type 0) → (ℕ → Ty) → Type 0
At s P v = P (map v s.constants.now) (map v s.variables.now)
