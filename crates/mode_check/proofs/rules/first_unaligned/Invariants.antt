use Rattle.std.proofs.Common.{◌≡◌, take, flat_map, zip}
use Rattle.lp_resolve.specs.StaticRules.{goals_of, is_unaligned, first_of}
use Rattle.lp_resolve.specs.declared.static_rule.StaticRule.TheVariants.{S7}
use Rattle.mode_check.proofs.Firsts.{breach_at}
use Rattle.mode_check.proofs.rules.first_unaligned.Given as goal

abbrev pub invariant-loop-index : goal.invariant-loop-index
invariant-loop-index l = l.found ≡ first_of (flat_map (breach_at S7 (is_unaligned (goals_of l.rule))) (take l.index (zip l.pairs l.places)))
