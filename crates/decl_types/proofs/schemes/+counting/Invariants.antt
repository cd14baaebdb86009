use Rattle.std.proofs.Common.{◌≡◌, map, take}
use Rattle.decl_types.specs.DeclaredTypes.{variables_of, most_variables}
use Rattle.decl_types.proofs.schemes.+counting.Given as goal

abbrev pub invariant-most_variables-loop-ty : goal.invariant-most_variables-loop-ty
invariant-most_variables-loop-ty l = l.most ≡ most_variables (map variables_of (take l.ty-index l.types))
