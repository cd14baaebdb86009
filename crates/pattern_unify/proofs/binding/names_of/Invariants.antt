use Rattle.std.proofs.Common.{◌≡◌, take}
use Rattle.pattern_unify.proofs.binding.names_of.Given as goal

abbrev pub invariant-loop-name : goal.invariant-loop-name
invariant-loop-name l = record {
  copied : l.list ≡ take l.name-index l.ns;
}
