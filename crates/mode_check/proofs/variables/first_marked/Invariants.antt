use Rattle.std.proofs.Common.{◌≡◌, not, take, flat_map, zip}
use Rattle.lp_resolve.specs.StaticRules.{first_of}
use Rattle.lp_resolve.specs.declared.static_rule.StaticRule.TheVariants.{S4}
use Rattle.mode_check.proofs.Firsts.{breach_at}
use Rattle.mode_check.proofs.variables.first_marked.Given as goal

abbrev pub invariant-loop-index : goal.invariant-loop-index
invariant-loop-index l = l.found ≡ first_of (flat_map (breach_at S4 not) (take l.index (zip l.usable l.vars)))
