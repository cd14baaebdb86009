use Rattle.std.proofs.Common.{◌∙◌, ℕ, List, Vec, Global, map, flat_map, ap, sym}
use Rattle.lp_parser.specs.declared.ast.AstType.{AstType}
use Rattle.lp_resolve.specs.Symbols.{interned_all}
use Rattle.decl_read.specs.DeclReading.{variable_texts, variables_in}
use Rattle.decl_read.proofs.Forms.{variables-named, variables-arrow}
use Rattle.decl_read.proofs.Texts.{texts-more, texts-both}
use Rattle.decl_read.proofs.variables.+variables.Goals as goal

pub put_type-returns-in_ok-put_types-in-Named : goal.put_type-returns-in_ok-put_types-in-Named
put_type-returns-in_ok-put_types-in-Named t c =
    let f = λ (text : Vec ℕ Global). text.items in
    let old = map f c.args.variables.now.keys in
    let mid = map f c.put_variable.new.variables.keys in
    let w = c.in-Named.word in
    texts-both old mid (map f c.put_types.new.variables.keys) (variable_texts w.text) (flat_map variables_in c.in-Named.args)
    (c.in_ok-put_variable-in-Named.ensures ∙ ap (λ (s : List ℕ). interned_all old (variable_texts s)) c.as_slice.ensures)
    (c.in_ok-put_types-in-Named.ensures ∙ ap (λ (ts : List AstType). interned_all mid (flat_map variables_in ts)) c.as_slice-in-Named.ensures)
    ∙ ap (interned_all old) (sym (ap variables_in c.in-Named.is ∙ variables-named w c.in-Named.args))

pub put_type-returns-in_ok-put_type-in-Arrow-2 : goal.put_type-returns-in_ok-put_type-in-Arrow-2
put_type-returns-in_ok-put_type-in-Arrow-2 t c =
    let f = λ (text : Vec ℕ Global). text.items in
    let old = map f c.args.variables.now.keys in
    let mid = map f c.put_type.new.variables.keys in
    let a = c.in-Arrow.left in
    let b = c.in-Arrow.right in
    texts-both old mid (map f c.put_type-in-Arrow.new.variables.keys) (variables_in a) (variables_in b)
    (c.in_ok-put_type-in-Arrow.ensures ∙ ap (λ (x : AstType). interned_all old (variables_in x)) c.get.ensures)
    (c.in_ok-put_type-in-Arrow-2.ensures ∙ ap (λ (x : AstType). interned_all mid (variables_in x)) c.get-in-Arrow.ensures)
    ∙ ap (interned_all old) (sym (ap variables_in c.in-Arrow.is ∙ variables-arrow a b))

pub put_types-loop-ty-preserved : goal.put_types-loop-ty-preserved
put_types-loop-ty-preserved t c =
    let f = λ (text : Vec ℕ Global). text.items in
    texts-more variables_in (map f c.args.variables.now.keys) (map f c.loop-ty.variables.keys) (map f c.put_type.new.variables.keys) c.args.types.now c.loop-ty.ty-index c.ty-item.result c.loop-ty-test.true c.ty-item.is
    c.loop-ty.invariant c.in_ok-put_type.ensures
