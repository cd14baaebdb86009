use Rattle.std.proofs.Common.{ℕ, [], Vec, Global, map}
use Rattle.lp_parser.specs.declared.ast.AstArg.{AstArg}
use Rattle.decl_read.specs.DeclReading.{variables_in}
use Rattle.decl_read.proofs.Texts.{texts-more}
use Rattle.decl_read.proofs.variables.variables_of_args.Goals as goal

pub loop-arg-preserved : goal.loop-arg-preserved
loop-arg-preserved c =
    let f = λ (text : Vec ℕ Global). text.items in
    texts-more (λ (a : AstArg). variables_in a.ty) [] (map f c.loop-arg.variables.keys) (map f c.put_type.new.variables.keys) c.args.args.now c.loop-arg.arg-index c.arg-item.result c.loop-arg-test.true c.arg-item.is
    c.loop-arg.invariant c.in_ok-put_type.ensures
