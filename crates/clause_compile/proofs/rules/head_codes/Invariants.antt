use Rattle.std.proofs.Common.{◌≡◌, take, map, []}
use Rattle.level_terms.specs.Growth.{Grows}
use Rattle.lp_resolve.specs.Plain.{plain_head}
use Rattle.clause_compile.specs.inside.RuleCodes.{AreHeadCodes}
use Rattle.clause_compile.proofs.rules.head_codes.Given as goal

abbrev pub invariant-loop-head : goal.invariant-loop-head
invariant-loop-head l = record {
  codes : AreHeadCodes l.variables l.heap.nodes l.codes (map plain_head (take l.head-index l.heads));
  closed : l.heap.depths ≡ [];
  grows : Grows l.fn.heap l.heap [] [];
}
