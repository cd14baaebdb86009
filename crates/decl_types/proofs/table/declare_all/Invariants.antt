use Rattle.std.proofs.Common.{map, take}
use Rattle.decl_types.specs.DeclaredTypes.{typed_so}
use Rattle.decl_types.specs.inside.Tables.{Gains}
use Rattle.decl_types.proofs.table.declare_all.Given as goal

abbrev pub invariant-loop-name : goal.invariant-loop-name
invariant-loop-name l = Gains l.fn.table.items l.table.items (map (typed_so l.ty) (take l.name-index l.names))
