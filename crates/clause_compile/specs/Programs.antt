-- The code of a program in a heap.
use Rattle.std.specs.Prelude.{◌≡◌, ℕ, Bool, List, map, Option, option_map}
use Rattle.ref_terms.specs.search.Program.{Program, Clause, modes_of}
use Rattle.level_terms.specs.declared.node.Node.{Node}
use Rattle.level_terms.specs.Graph.{Graph}
use Rattle.lp_resolve.specs.declared.program.Pred.{Pred}
use Rattle.lp_resolve.specs.Preds.{pred_at}
use Rattle.clause_key.specs.Keys.{atom_key}
use Rattle.clause_compile.specs.inside.Meaning.{AreShared}
use Rattle.clause_compile.specs.inside.Codes.{AreClauseCodes}
use Rattle.clause_compile.specs.inside.RuleCodes.{AreRuleCodes}
use Rattle.clause_compile.specs.declared.code.Code.{Code}

-- for each argument of a predicate whether it is an input
abbrev pub inputs_of : Option Pred → Option (List Bool)
inputs_of o = option_map (λ (p : Pred). p.inputs) o

-- The code of a program: what it names is among the oldest nodes of the heap, so many, which have no variables. Over these it means the program's clauses, in order, its keys are those of the clauses' heads, its predicates have the program's modes, and its rules are the program's, in order.
pub record IsCode (n : ℕ) (g : Graph) (code : Code) (p : Program) : Type 0 where
  pub nodes : List Node
  pub shared : AreShared n g nodes
  pub clauses : AreClauseCodes nodes code.clauses p.clauses
  pub keys : code.keys ≡ map (λ (k : Clause). atom_key p k.head) p.clauses
  pub preds : (s : ℕ) → inputs_of (pred_at s code.preds) ≡ modes_of p s
  pub rules : AreRuleCodes nodes code.rules.rules p.rules
