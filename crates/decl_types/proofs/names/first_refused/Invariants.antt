use Rattle.std.proofs.Common.{◌≡◌, ℕ, [], take, drop, nat_eq}
use Rattle.std.specs.List.{list_any}
use Rattle.decl_types.specs.TypeRules.{name_breaches, earlier, first_of}
use Rattle.decl_types.proofs.NameLemmas.{holds}
use Rattle.decl_types.proofs.names.first_refused.Given as goal

abbrev pub invariant-loop-declared : goal.invariant-loop-declared
invariant-loop-declared l = record {
  names : (c : ℕ) → list_any (nat_eq c) l.seen.keys ≡ holds (take l.declared-index l.names) c;
  found : first_of (name_breaches l.rule [] l.names) ≡ earlier l.found (first_of (name_breaches l.rule (take l.declared-index l.names) (drop l.declared-index l.names)));
}
