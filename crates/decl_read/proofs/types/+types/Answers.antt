use Rattle.std.proofs.Common.{◌≡◌, ◌∙◌, ◌++◌, ◌∷◌, [], ℕ, List, Vec, Global, map, flat_map, take, ap, ap₂, sym, arith}
use Rattle.std.proofs.lemmas.List.{map-append, take_all}
use Rattle.ref_terms.specs.declared.sym.Sym.{Sym}
use Rattle.lp_parser.specs.declared.ast.AstType.{AstType}
use Rattle.lp_resolve.specs.Symbols.{number_of, interned, interned_all}
use Rattle.lp_resolve.proofs.BeginsLemmas.{begins-trans, symbol-later}
use Rattle.lp_resolve.proofs.PutLemmas.{have_texts-more, have_put-more}
use Rattle.decl_trees.specs.declared.trees.TypeWord.{TypeWord}
use Rattle.decl_trees.specs.declared.trees.TypeTree.{TypeTree}
use Rattle.decl_trees.specs.declared.trees.TypeTree.TheVariants as tree
use Rattle.decl_read.specs.DeclReading.{type_texts, word_of, type_of}
use Rattle.decl_read.proofs.Forms.{texts-named, texts-arrow, type-named, type-arrow}
use Rattle.decl_read.proofs.Texts.{texts-both}
use Rattle.decl_read.proofs.types.+types.Goals as goal

pub read_type-returns-in_ok-args-in-Named-clause-table : goal.read_type-returns-in_ok-args-in-Named-clause-table
read_type-returns-in_ok-args-in-Named-clause-table t c =
    let old = c.args.symbols.now in
    let w = c.in-Named.word in
    texts-both old c.intern.new.self c.read_types.new.symbols (w.text ∷ []) (flat_map type_texts c.in-Named.args)
    (c.in_ok-symbol-in-Named.ensures.interned ∙ ap (interned old) c.as_slice-text.ensures)
    (c.in_ok-args-in-Named.ensures.table ∙ ap (λ (ts : List AstType). interned_all c.intern.new.self (flat_map type_texts ts)) c.as_slice.ensures)
    ∙ ap (interned_all old) (sym (ap type_texts c.in-Named.is ∙ texts-named w c.in-Named.args))

pub read_type-returns-in_ok-args-in-Named-clause-tree : goal.read_type-returns-in_ok-args-in-Named-clause-tree
read_type-returns-in_ok-args-in-Named-clause-tree t c later b =
    let vs = map (λ (text : Vec ℕ Global). text.items) c.args.variables.now.keys in
    let w = c.in-Named.word in
    let text = c.as_slice-text.result.now in
    let symbol = symbol-later c.args.symbols.now c.intern.new.self text c.in_ok-symbol-in-Named.symbol c.in_ok-symbol-in-Named.ensures.interned c.in_ok-symbol-in-Named.ensures.number later
    (begins-trans c.in_ok-args-in-Named.ensures.begins b) in
    let word : c.word_of.result ≡ word_of (number_of later w.text) vs w.text =
    c.word_of.ensures ∙ ap (λ (s : Sym). word_of s.0 vs text) symbol ∙ ap (λ (s : List ℕ). word_of (number_of later s) vs s) c.as_slice-text.ensures in
    let args : c.in_ok-args-in-Named.args ≡ map (type_of later vs) c.in-Named.args =
    c.in_ok-args-in-Named.ensures.trees later b ∙ ap (map (type_of later vs)) c.as_slice.ensures in
    ap₂ (λ (x : TypeWord) (ys : List TypeTree). tree.Word x ys w.place) word args
    ∙ sym (ap (type_of later vs) c.in-Named.is ∙ type-named later vs w c.in-Named.args)

pub read_type-returns-in_ok-right-in-Arrow-2-clause-table : goal.read_type-returns-in_ok-right-in-Arrow-2-clause-table
read_type-returns-in_ok-right-in-Arrow-2-clause-table t c =
    let old = c.args.symbols.now in
    let mid = c.read_type.new.symbols in
    let x = c.in-Arrow.left in
    let y = c.in-Arrow.right in
    texts-both old mid c.read_type-in-Arrow.new.symbols (type_texts x) (type_texts y)
    (c.in_ok-left-in-Arrow.ensures.table ∙ ap (λ (z : AstType). interned_all old (type_texts z)) c.get.ensures)
    (c.in_ok-right-in-Arrow.ensures.table ∙ ap (λ (z : AstType). interned_all mid (type_texts z)) c.get-in-Arrow.ensures)
    ∙ ap (interned_all old) (sym (ap type_texts c.in-Arrow.is ∙ texts-arrow x y))

pub read_type-returns-in_ok-right-in-Arrow-2-clause-tree : goal.read_type-returns-in_ok-right-in-Arrow-2-clause-tree
read_type-returns-in_ok-right-in-Arrow-2-clause-tree t c later b =
    let vs = map (λ (text : Vec ℕ Global). text.items) c.args.variables.now.keys in
    let x = c.in-Arrow.left in
    let y = c.in-Arrow.right in
    let left : c.in_ok-left-in-Arrow-2.left ≡ type_of later vs x =
    c.in_ok-left-in-Arrow-2.ensures ∙ c.in_ok-left-in-Arrow.ensures.tree later (begins-trans c.in_ok-right-in-Arrow.ensures.begins b) ∙ ap (type_of later vs) c.get.ensures in
    let right : c.in_ok-right-in-Arrow-2.right ≡ type_of later vs y =
    c.in_ok-right-in-Arrow-2.ensures ∙ c.in_ok-right-in-Arrow.ensures.tree later b ∙ ap (type_of later vs) c.get-in-Arrow.ensures in
    ap₂ (λ (l : TypeTree) (r : TypeTree). tree.Arrow l r) left right ∙ sym (ap (type_of later vs) c.in-Arrow.is ∙ type-arrow later vs x y)

pub read_types-loop-ty-preserved : goal.read_types-loop-ty-preserved
read_types-loop-ty-preserved t c =
    let vs = map (λ (text : Vec ℕ Global). text.items) c.args.variables.now.keys in
    let done = take c.loop-ty.ty-index c.args.types.now in
    record {
      texts = have_texts-more c.args.types.now c.loop-ty.ty-index c.ty-item.result c.loop-ty-test.true c.ty-item.is
          type_texts c.args.symbols.now c.loop-ty.symbols c.read_type.new.symbols c.loop-ty.invariant.texts c.in_ok-tree.ensures.begins c.in_ok-tree.ensures.table;
      trees = have_put-more c.args.types.now c.loop-ty.ty-index c.ty-item.result c.loop-ty-test.true c.ty-item.is
          (λ later. map (type_of later vs)) c.loop-ty.symbols c.read_type.new.symbols [] c.loop-ty.trees c.push.new.self
          (λ later. type_of later vs c.ty-item.result ∷ [])
          (λ later. map-append (type_of later vs) done (c.ty-item.result ∷ []))
          c.loop-ty.invariant.trees c.in_ok-tree.ensures.begins
          (λ later b. c.in_ok-push.ensures.last ∙ ap (λ y. c.loop-ty.trees ++ y ∷ []) (c.in_ok-tree.ensures.tree later b));
    }

pub read_types-returns-clause-trees : goal.read_types-returns-clause-trees
read_types-returns-clause-trees t c later b =
    let vs = map (λ (text : Vec ℕ Global). text.items) c.args.variables.now.keys in
    c.loop-ty.invariant.trees.is later b ∙ ap (map (type_of later vs)) (take_all c.loop-ty.ty-index c.args.types.now (omega (arith, c.loop-ty-test.false)))
