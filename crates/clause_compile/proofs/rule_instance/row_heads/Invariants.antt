use Rattle.std.proofs.Common.{◌≡◌, ℕ, List, length, take, []}
use Rattle.ref_terms.specs.search.Program.{RuleHead}
use Rattle.level_terms.specs.declared.node.Node.{Node}
use Rattle.level_terms.specs.Growth.{Grows}
use Rattle.clause_compile.specs.Rules.{IsHeadMade}
use Rattle.clause_compile.specs.inside.Meaning.{AreShared}
use Rattle.clause_compile.specs.inside.Rows.{IsRow}
use Rattle.clause_compile.specs.inside.RuleCodes.{Each, AreHeadCodes}
use Rattle.clause_compile.proofs.rule_instance.row_heads.Given as goal

abbrev pub invariant-loop-head : goal.invariant-loop-head
invariant-loop-head l = record {
  made : (n next : ℕ) (nodes : List Node) (hs : List RuleHead) → AreShared n l.fn.heap nodes → AreHeadCodes (length l.variables) nodes l.heads hs → IsRow l.fn.heap l.depth next l.variables → Each (IsHeadMade l.heap l.depth next) l.made (take l.head-index hs);
  row : (next : ℕ) → IsRow l.fn.heap l.depth next l.variables → IsRow l.heap l.depth next l.variables;
  depths : l.heap.depths ≡ l.fn.heap.depths;
  grows : Grows l.fn.heap l.heap [] [];
}
