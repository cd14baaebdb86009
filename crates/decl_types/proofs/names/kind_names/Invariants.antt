use Rattle.std.proofs.Common.{◌≡◌, take, flat_map}
use Rattle.decl_types.specs.TypeRules.{kind_names}
use Rattle.decl_types.proofs.names.kind_names.Given as goal

abbrev pub invariant-loop-decl : goal.invariant-loop-decl
invariant-loop-decl l = l.names.items ≡ flat_map (kind_names l.symbols) (take l.decl-index l.decls)
