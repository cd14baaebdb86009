use Rattle.std.proofs.Common.{◌≡◌, take, flat_map}
use Rattle.lp_resolve.specs.StaticRules.{rule_breaches, first_of}
use Rattle.mode_check.proofs.rules.first_in_rules.Given as goal

abbrev pub invariant-loop-rule : goal.invariant-loop-rule
invariant-loop-rule l = l.found ≡ first_of (flat_map rule_breaches (take l.rule-index l.rules))
