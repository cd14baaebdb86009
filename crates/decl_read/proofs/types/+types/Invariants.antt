use Rattle.std.proofs.Common.{map, take}
use Rattle.lp_resolve.proofs.PutLemmas.{HaveTexts, HavePut}
use Rattle.std.proofs.Common.{[]}
use Rattle.decl_read.specs.DeclReading.{type_texts, type_of}
use Rattle.decl_read.proofs.types.+types.Given as goal

abbrev pub invariant-read_types-loop-ty : goal.invariant-read_types-loop-ty
invariant-read_types-loop-ty l = record {
  texts : HaveTexts type_texts l.initial.symbols l.symbols (take l.ty-index l.types);
  trees : HavePut (λ later. map (type_of later (map (λ it. it.items) l.variables.keys))) l.symbols [] (take l.ty-index l.types) l.trees;
}
