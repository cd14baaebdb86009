use Rattle.std.proofs.Common.{take, flat_map}
use Rattle.decl_types.specs.TypeRules.{kinds_in}
use Rattle.decl_types.specs.inside.Kinds.{AreKinds}
use Rattle.decl_types.proofs.kinds.kinds_of.Given as goal

abbrev pub invariant-loop-decl : goal.invariant-loop-decl
invariant-loop-decl l = AreKinds l.kinds (flat_map kinds_in (take l.decl-index l.decls))
