use Rattle.std.proofs.Common.{◌≡◌, take, flat_map, nat_eq}
use Rattle.indexmap.specs.IndexMap.{get}
use Rattle.decl_types.specs.TypeRules.{word_breaches, first_of}
use Rattle.decl_types.proofs.kinds.+words.Given as goal

abbrev pub invariant-first_in_types-loop-ty : goal.invariant-first_in_types-loop-ty
invariant-first_in_types-loop-ty l = l.found ≡ first_of (flat_map (word_breaches (get nat_eq l.kinds)) (take l.ty-index l.types))
