use Rattle.std.proofs.Common.{◌∙◌, ◌++◌, ◌∷◌, [], ℕ, Vec, Global, map, take, ap, arith}
use Rattle.std.proofs.lemmas.List.{map-append, take_all}
use Rattle.lp_parser.specs.declared.ast.AstArg.{AstArg}
use Rattle.lp_resolve.proofs.PutLemmas.{have_texts-more, have_put-more}
use Rattle.decl_read.specs.DeclReading.{type_texts, type_of}
use Rattle.decl_read.proofs.types.read_args.Goals as goal

pub loop-arg-preserved : goal.loop-arg-preserved
loop-arg-preserved c =
    let vs = map (λ (text : Vec ℕ Global). text.items) c.args.variables.now.keys in
    let done = take c.loop-arg.arg-index c.args.args.now in
    record {
      texts = have_texts-more c.args.args.now c.loop-arg.arg-index c.arg-item.result c.loop-arg-test.true c.arg-item.is
          (λ (a : AstArg). type_texts a.ty) c.args.symbols.now c.loop-arg.symbols c.read_type.new.symbols c.loop-arg.invariant.texts c.in_ok-tree.ensures.begins c.in_ok-tree.ensures.table;
      trees = have_put-more c.args.args.now c.loop-arg.arg-index c.arg-item.result c.loop-arg-test.true c.arg-item.is
          (λ later. map (λ (a : AstArg). type_of later vs a.ty)) c.loop-arg.symbols c.read_type.new.symbols [] c.loop-arg.trees c.push.new.self
          (λ later. type_of later vs c.arg-item.result.ty ∷ [])
          (λ later. map-append (λ (a : AstArg). type_of later vs a.ty) done (c.arg-item.result ∷ []))
          c.loop-arg.invariant.trees c.in_ok-tree.ensures.begins
          (λ later b. c.in_ok-push.ensures.last ∙ ap (λ y. c.loop-arg.trees ++ y ∷ []) (c.in_ok-tree.ensures.tree later b));
    }

pub returns-clause-trees : goal.returns-clause-trees
returns-clause-trees c later b =
    let vs = map (λ (text : Vec ℕ Global). text.items) c.args.variables.now.keys in
    c.loop-arg.invariant.trees.is later b ∙ ap (map (λ (a : AstArg). type_of later vs a.ty)) (take_all c.loop-arg.arg-index c.args.args.now (omega (arith, c.loop-arg-test.false)))
