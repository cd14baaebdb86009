use Rattle.std.proofs.Common.{◌≡◌, take, flat_map}
use Rattle.type_texts.specs.TypeText.{noted_all}
use Rattle.type_texts.specs.Occurring.{rule_constants}
use Rattle.type_texts.proofs.occurring.note_rules.Given as goal

abbrev pub invariant-loop-rule : goal.invariant-loop-rule
invariant-loop-rule l = l.constants.keys ≡ noted_all l.fn.constants.keys (flat_map rule_constants (take l.rule-index l.rules))
