use Rattle.std.proofs.Common.{◌≡◌, map, take, flat_map}
use Rattle.lp_resolve.specs.Symbols.{interned_all}
use Rattle.decl_read.specs.DeclReading.{variables_in}
use Rattle.decl_read.proofs.variables.+variables.Given as goal

abbrev pub invariant-put_types-loop-ty : goal.invariant-put_types-loop-ty
invariant-put_types-loop-ty l = map (λ it. it.items) l.variables.keys ≡ interned_all (map (λ it. it.items) l.initial.variables.keys) (flat_map variables_in (take l.ty-index l.types))
