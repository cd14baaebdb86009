use Rattle.std.proofs.Common.{◌++◌, List, map, take}
use Rattle.decl_types.specs.TypeRules.{Kind, kind_of}
use Rattle.decl_types.specs.inside.Kinds.{AreKinds}
use Rattle.decl_types.proofs.kinds.put_kinds.Given as goal

abbrev pub invariant-loop-name : goal.invariant-loop-name
invariant-loop-name l = (before : List Kind) → AreKinds l.fn.kinds before → AreKinds l.kinds (before ++ map (kind_of l.arity) (take l.name-index l.names))
