use Rattle.std.proofs.Common.{◌∙◌, ℕ, List, ap, ap₂}
use Rattle.lp_resolve.proofs.BeginsLemmas.{begins-trans}
use Rattle.decl_trees.specs.declared.trees.PlacedName.{PlacedName}
use Rattle.decl_trees.specs.declared.trees.TypeTree.{TypeTree}
use Rattle.decl_trees.specs.declared.trees.DeclTree.TheVariants.{TypeOf}
use Rattle.decl_read.specs.DeclReading.{type_of}
use Rattle.decl_read.proofs.declarations.read_type_of.Goals as goal

pub returns-clause-decl : goal.returns-clause-decl
returns-clause-decl c later b =
    ap₂ (λ (ns : List PlacedName) (t : TypeTree). TypeOf ns t) (c.in_ok-names.ensures.names later (begins-trans c.in_ok-ty.ensures.begins b))
    (c.in_ok-ty.ensures.tree later b ∙ ap (λ (vs : List (List ℕ)). type_of later vs c.args.ty.now) c.in_ok-variables.ensures)
