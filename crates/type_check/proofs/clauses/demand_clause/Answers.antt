use Rattle.std.proofs.Common.{IfSome, subst}
use Rattle.type_terms.specs.Read.{declared_of}
use Rattle.type_terms.specs.Demands.{Meets, Demands}
use Rattle.type_terms.proofs.CallerLemmas.{known-depends, demands-both, demands-part, if-ok}
use Rattle.type_check.specs.Typings.{IsTreeTyped, IsClauseTyped}
use Rattle.type_check.specs.inside.Scopes.{At}
use Rattle.type_check.proofs.clauses.demand_clause.Goals as goal

pub returns-then-not-branch : goal.returns-then-not-branch
returns-then-not-branch c =
    let s = c.args.scope.now in
    let d = declared_of s.declared.now in
    let Head = At s (λ cs xs. IsTreeTyped d cs xs c.args.clause.now.head) in
    demands-part c.args.graph.now c.demand_goal.new.graph Head (At s (λ cs xs. IsClauseTyped d cs xs c.args.clause.now)) (λ v e. e.head)
    (subst (Demands c.args.graph.now c.demand_goal.new.graph Head) c.if-not-branch.true c.in_ok-demand_goal.ensures)

pub returns : goal.returns
returns c =
    let s = c.args.scope.now in
    let d = declared_of s.declared.now in
    let k = c.args.clause.now in
    let Head = At s (λ cs xs. IsTreeTyped d cs xs k.head) in
    let Body = At s (λ cs xs. IfSome k.body (IsTreeTyped d cs xs)) in
    let Whole = At s (λ cs xs. IsClauseTyped d cs xs k) in
    let first : Meets c.args.graph.now c.demand_goal.new.graph Head = subst (Demands c.args.graph.now c.demand_goal.new.graph Head) c.if-not-branch.false c.in_ok-demand_goal.ensures in
    if-ok c.demand_body.result (Demands c.demand_goal.new.graph c.demand_body.new.graph Body) (Demands c.args.graph.now c.demand_body.new.graph Whole)
    (λ b r. demands-both c.args.graph.now c.demand_goal.new.graph c.demand_body.new.graph Head Body Whole b (known-depends c.args.graph.now s (λ cs xs. IfSome k.body (IsTreeTyped d cs xs)) c.requires)
    (λ v e. (e.head, e.body)) (λ v e f. record { head = e; body = f }) first r)
    c.demand_body.ensures
