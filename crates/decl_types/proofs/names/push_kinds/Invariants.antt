use Rattle.std.proofs.Common.{◌≡◌, ◌++◌, map, take}
use Rattle.decl_types.specs.TypeRules.{kind_name}
use Rattle.decl_types.proofs.names.push_kinds.Given as goal

abbrev pub invariant-loop-name : goal.invariant-loop-name
invariant-loop-name l = l.names.items ≡ l.fn.names.items ++ map (kind_name l.symbols) (take l.name-index l.declared)
