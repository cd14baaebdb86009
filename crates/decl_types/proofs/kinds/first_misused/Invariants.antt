use Rattle.std.proofs.Common.{◌≡◌, take, flat_map, nat_eq}
use Rattle.indexmap.specs.IndexMap.{get}
use Rattle.decl_types.specs.TypeRules.{breaches_of_words, first_of}
use Rattle.decl_types.proofs.kinds.first_misused.Given as goal

abbrev pub invariant-loop-decl : goal.invariant-loop-decl
invariant-loop-decl l = l.found ≡ first_of (flat_map (breaches_of_words (get nat_eq l.kinds)) (take l.decl-index l.decls))
