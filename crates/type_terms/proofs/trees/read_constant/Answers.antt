use Rattle.std.specs.Option.{option_map}
use Rattle.std.proofs.Common.{◌≡◌, None, sym, ap, ◌∙◌, []}
use Rattle.type_terms.specs.Read.{declared_of, scope}
use Rattle.type_terms.proofs.Readings.{con-undeclared}
use Rattle.type_terms.proofs.trees.read_constant.Goals as goal

pub returns-in-None : goal.returns-in-None
returns-in-None c =
    let d = declared_of c.args.scope.now.declared.now in
    let none : d c.args.constant ≡ None = sym c.polytype_of.ensures ∙ ap (λ o. option_map (λ polytype. polytype.now) o) c.in-None.is in
    con-undeclared c.args.graph.now (scope d c.args.scope.now.constants.now [] []) c.args.constant c.node_of.result none c.node_of.ensures c.requires
