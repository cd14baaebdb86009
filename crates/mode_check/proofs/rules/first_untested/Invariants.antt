use Rattle.std.proofs.Common.{◌≡◌, not, take, flat_map, zip}
use Rattle.lp_resolve.specs.StaticRules.{is_test, first_of}
use Rattle.lp_resolve.specs.declared.static_rule.StaticRule.TheVariants.{S8}
use Rattle.mode_check.proofs.Firsts.{breach_at}
use Rattle.mode_check.proofs.rules.first_untested.Given as goal

abbrev pub invariant-loop-index : goal.invariant-loop-index
invariant-loop-index l = l.found ≡ first_of (flat_map (breach_at S8 (λ t. not (is_test t))) (take l.index (zip l.tests l.places)))
