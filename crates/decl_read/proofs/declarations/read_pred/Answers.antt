use Rattle.std.proofs.Common.{◌∙◌, ℕ, List, map, ap, ap₂}
use Rattle.lp_parser.specs.declared.ast.AstArg.{AstArg}
use Rattle.lp_resolve.proofs.BeginsLemmas.{begins-trans}
use Rattle.decl_trees.specs.declared.trees.PlacedName.{PlacedName}
use Rattle.decl_trees.specs.declared.trees.TypeTree.{TypeTree}
use Rattle.decl_trees.specs.declared.trees.DeclTree.TheVariants.{PredTree}
use Rattle.decl_read.specs.DeclReading.{type_of}
use Rattle.decl_read.proofs.declarations.read_pred.Goals as goal

pub returns-clause-decl : goal.returns-clause-decl
returns-clause-decl c later b =
    ap₂ (λ (n : PlacedName) (ts : List TypeTree). PredTree n ts) (c.in_ok-name.ensures.name later (begins-trans c.in_ok-args.ensures.begins b))
    (c.in_ok-args.ensures.trees later b ∙ ap (λ (vs : List (List ℕ)). map (λ (a : AstArg). type_of later vs a.ty) c.args.args.now) c.in_ok-variables.ensures)
