-- Nodes as heads, and the arguments of applications.
use Rattle.std.specs.Prelude.{List, [], Option, Some}
use Rattle.level_terms.specs.declared.node.Node.{Node}
use Rattle.level_terms.specs.declared.node.Node.TheVariants.{App}
use Rattle.level_terms.specs.declared.node.TermId.{TermId}

-- the arguments of an application
abbrev pub args_in : Option Node → List TermId
args_in (Some (App h ts)) = ts
args_in _ = []
