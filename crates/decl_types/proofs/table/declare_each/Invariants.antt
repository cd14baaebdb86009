use Rattle.std.proofs.Common.{take, flat_map}
use Rattle.decl_types.specs.DeclaredTypes.{declared_in}
use Rattle.decl_types.specs.inside.Tables.{Gains}
use Rattle.decl_types.proofs.table.declare_each.Given as goal

abbrev pub invariant-loop-decl : goal.invariant-loop-decl
invariant-loop-decl l = Gains l.fn.table.items l.table.items (flat_map declared_in (take l.decl-index l.decls))
