use Rattle.std.proofs.Common.{◌≡◌, take, flat_map}
use Rattle.lp_resolve.specs.StaticRules.{line_breaches, first_of}
use Rattle.mode_check.proofs.declarations.first_reserved.Given as goal

abbrev pub invariant-loop-line : goal.invariant-loop-line
invariant-loop-line l = l.found ≡ first_of (flat_map line_breaches (take l.line-index l.lines))
