use Rattle.std.proofs.Common.{◌∙◌, [], take, ap, sym, arith}
use Rattle.std.specs.List.{flat_map}
use Rattle.std.proofs.lemmas.List.{take_all}
use Rattle.lp_resolve.proofs.BeginsLemmas.{begins-refl}
use Rattle.lp_resolve.proofs.ReadsAsLemmas.{flat_map_last}
use Rattle.lp_resolve.proofs.PutLemmas.{have_texts-more, have_put-more}
use Rattle.decl_read.specs.DeclReading.{item_texts, item_decls, declarations_of}
use Rattle.decl_read.proofs.declarations.read_declarations.Goals as goal

pub loop-item-preserved : goal.loop-item-preserved
loop-item-preserved c =
    let xs = c.as_slice-item-items.result.now in
    let i = c.loop-item.item-index in
    let x = c.item-item.result in
    record {
      texts = have_texts-more xs i x c.loop-item-test.true c.item-item.is
          item_texts c.args.symbols.now c.loop-item.symbols c.read_item.new.symbols c.loop-item.invariant.texts c.in_ok-read_item.ensures.begins c.in_ok-read_item.ensures.table;
      decls = have_put-more xs i x c.loop-item-test.true c.item-item.is
          (λ later. flat_map (item_decls later)) c.loop-item.symbols c.read_item.new.symbols [] c.loop-item.decls c.read_item.new.decls
          (λ later. item_decls later x)
          (λ later. sym (flat_map_last (item_decls later) (take i xs) x))
          c.loop-item.invariant.decls c.in_ok-read_item.ensures.begins c.in_ok-read_item.ensures.decls;
    }

pub returns-clause-declarations : goal.returns-clause-declarations
returns-clause-declarations c =
    let table = c.loop-item.symbols in
    c.loop-item.invariant.decls.is table (begins-refl table)
    ∙ ap (flat_map (item_decls table)) (take_all c.loop-item.item-index c.as_slice-item-items.result.now (omega (arith, c.loop-item-test.false)))
    ∙ ap (declarations_of table) c.as_slice-item-items.ensures
