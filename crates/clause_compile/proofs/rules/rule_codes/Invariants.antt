use Rattle.std.proofs.Common.{◌≡◌, take, map, []}
use Rattle.level_terms.specs.Growth.{Grows}
use Rattle.lp_resolve.specs.Plain.{plain_rule}
use Rattle.clause_compile.specs.inside.RuleCodes.{AreRuleCodes}
use Rattle.clause_compile.proofs.rules.rule_codes.Given as goal

abbrev pub invariant-loop-rule : goal.invariant-loop-rule
invariant-loop-rule l = record {
  codes : AreRuleCodes l.heap.nodes l.codes (map plain_rule (take l.rule-index l.rules));
  closed : l.heap.depths ≡ [];
  grows : Grows l.fn.heap l.heap [] [];
}
