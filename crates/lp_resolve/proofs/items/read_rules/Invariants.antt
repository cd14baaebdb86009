use Rattle.std.proofs.Common.{map, take}
use Rattle.lp_resolve.specs.ProgramTexts.{rule_texts}
use Rattle.lp_resolve.specs.ProgramReading.{rule_of}
use Rattle.lp_resolve.proofs.PutLemmas.{HaveTexts, HavePut}
use Rattle.lp_resolve.proofs.items.read_rules.Given as goal

abbrev pub invariant-loop-rule : goal.invariant-loop-rule
invariant-loop-rule l = record {
  texts : HaveTexts rule_texts l.initial.symbols l.symbols (take l.rule-index l.read);
  rules : HavePut (λ later. map (rule_of later l.names)) l.symbols l.initial.rules (take l.rule-index l.read) l.rules;
}
