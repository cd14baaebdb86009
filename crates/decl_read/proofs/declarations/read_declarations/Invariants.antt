use Rattle.std.proofs.Common.{[], take}
use Rattle.std.specs.List.{flat_map}
use Rattle.lp_resolve.proofs.PutLemmas.{HaveTexts, HavePut}
use Rattle.decl_read.specs.DeclReading.{item_texts, item_decls}
use Rattle.decl_read.proofs.declarations.read_declarations.Given as goal

abbrev pub invariant-loop-item : goal.invariant-loop-item
invariant-loop-item l = record {
  texts : HaveTexts item_texts l.initial.symbols l.symbols (take l.item-index l.item-items);
  decls : HavePut (λ later. flat_map (item_decls later)) l.symbols [] (take l.item-index l.item-items) l.decls;
}
