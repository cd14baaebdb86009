use Rattle.std.proofs.Common.{Option, IfSome, map, subst, sym}
use Rattle.ref_terms.specs.declared.tree.Tree.{Tree}
use Rattle.type_terms.specs.Read.{declared_of}
use Rattle.type_terms.proofs.CallerLemmas.{meets-nothing}
use Rattle.type_check.specs.Typings.{IsTreeTyped}
use Rattle.type_check.specs.inside.Scopes.{At}
use Rattle.type_check.proofs.clauses.demand_body.Goals as goal

pub returns-in-None : goal.returns-in-None
returns-in-None c =
    let s = c.args.scope.now in
    let d = declared_of s.declared.now in
    meets-nothing c.args.graph.now (At s (λ cs xs. IfSome c.args.body.now (IsTreeTyped d cs xs)))
    (λ v. subst (λ (o : Option Tree). IfSome o (IsTreeTyped d (map v s.constants.now) (map v s.variables.now))) (sym c.in-None.is) tt)
