use Rattle.std.proofs.Common.{[], map, take}
use Rattle.lp_resolve.proofs.PutLemmas.{HaveTexts, HavePut}
use Rattle.decl_read.specs.DeclReading.{type_texts, type_of}
use Rattle.decl_read.proofs.types.read_args.Given as goal

abbrev pub invariant-loop-arg : goal.invariant-loop-arg
invariant-loop-arg l = record {
  texts : HaveTexts (λ a. type_texts a.ty) l.initial.symbols l.symbols (take l.arg-index l.args);
  trees : HavePut (λ later. map (λ a. type_of later (map (λ it. it.items) l.variables.keys) a.ty)) l.symbols [] (take l.arg-index l.args) l.trees;
}
