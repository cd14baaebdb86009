-- The code of a program, the shapes of its rules and its index.
use Rattle.std.specs.Prelude.{◌≡◌, ◌≤◌, ℕ, List, length}
use Rattle.level_terms.specs.declared.node.Node.{Node}
use Rattle.level_terms.specs.Graph.{Graph}
use Rattle.ref_terms.specs.search.Program.{Program}
use Rattle.clause_compile.specs.declared.code.Code.{Code}
use Rattle.clause_compile.specs.Programs.{IsCode}
use Rattle.clause_index.specs.Index.{IsIndexOf}
use Rattle.search_moves.specs.World.{oldest}
use Rattle.goal_run.specs.inside.Shapes.{AreShapes}
use Rattle.goal_run.specs.declared.code.ProgramCode.{ProgramCode}

-- over each heap with these oldest nodes the code means the program, the shapes are those of its rules, and the index is that of its clauses
pub record Stands (ns : List Node) (c : ProgramCode) (p : Program) : Type 0 where
  pub shared : ℕ
  pub code : (n : ℕ) (g : Graph) → n ≤ length g.nodes → oldest n g.nodes ≡ ns → IsCode shared g c.code p
  pub shapes : AreShapes c.shapes.items p.rules
  pub index : IsIndexOf p c.index

-- over each heap with these oldest nodes the code means the program
pub record IsCodeFor (ns : List Node) (code : Code) (p : Program) : Type 0 where
  pub shared : ℕ
  pub means : (n : ℕ) (g : Graph) → n ≤ length g.nodes → oldest n g.nodes ≡ ns → IsCode shared g code p

-- the shapes and the index are those of each program that the code means
pub record IsLaidOut (c : ProgramCode) : Type 0 where
  pub shapes : (n : ℕ) (g : Graph) (p : Program) → IsCode n g c.code p → AreShapes c.shapes.items p.rules
  pub index : (n : ℕ) (g : Graph) (p : Program) → IsCode n g c.code p → IsIndexOf p c.index
