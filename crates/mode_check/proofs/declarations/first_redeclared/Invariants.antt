use Rattle.std.proofs.Common.{◌≡◌, ℕ, [], take, drop, nat_eq}
use Rattle.std.specs.List.{list_any}
use Rattle.lp_resolve.specs.StaticRules.{is_declared, redeclared, breaches_at, earlier, first_of}
use Rattle.lp_resolve.specs.declared.static_rule.StaticRule.TheVariants.{S1}
use Rattle.mode_check.proofs.declarations.first_redeclared.Given as goal

abbrev pub invariant-loop-line : goal.invariant-loop-line
invariant-loop-line l = record {
  names : (c : ℕ) → list_any (nat_eq c) l.names.keys ≡ is_declared c (take l.line-index l.lines);
  found : first_of (breaches_at S1 (redeclared [] l.lines))
      ≡ earlier l.found (first_of (breaches_at S1 (redeclared (take l.line-index l.lines) (drop l.line-index l.lines))));
}
