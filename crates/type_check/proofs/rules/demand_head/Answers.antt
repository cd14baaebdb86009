use Rattle.std.proofs.Common.{ℕ, List, map, Option, IfSome, true, sym, subst}
use Rattle.type_graph.specs.Types.{Ty}
use Rattle.type_terms.specs.Read.{declared_of}
use Rattle.type_terms.specs.Demands.{Meets, Demands}
use Rattle.type_graph.specs.Types.{word, applied}
use Rattle.type_graph.specs.declared.node.Word.TheVariants as words
use Rattle.type_terms.specs.Typing.{IsAt}
use Rattle.type_terms.proofs.CallerLemmas.{known-depends, demands-both, demands-part, if-ok, same-demand}
use Rattle.type_check.specs.Typings.{IsTreeTyped, IsHeadTyped}
use Rattle.type_check.specs.inside.Scopes.{At}
use Rattle.type_check.proofs.rules.demand_head.Goals as goal

-- the variable of a context
abbrev Context : List Ty → ℕ → Type 0
Context variables x = IsAt variables x (applied (word words.List) (word words.Prop))

pub returns-then-not-branch : goal.returns-then-not-branch
returns-then-not-branch c =
    let s = c.args.scope.now in
    let d = declared_of s.declared.now in
    let Goal = At s (λ cs xs. IsTreeTyped d cs xs c.args.head.now.goal) in
    demands-part c.args.graph.now c.demand_goal.new.graph Goal (At s (λ cs xs. IsHeadTyped d cs xs c.args.head.now)) (λ v e. e.0)
    (subst (Demands c.args.graph.now c.demand_goal.new.graph Goal) c.if-not-branch.true c.in_ok-demand_goal.ensures)

pub returns-in-Some : goal.returns-in-Some
returns-in-Some c =
    let s = c.args.scope.now in
    let d = declared_of s.declared.now in
    let h = c.args.head.now in
    let Goal = At s (λ cs xs. IsTreeTyped d cs xs h.goal) in
    let Whole = At s (λ cs xs. IsHeadTyped d cs xs h) in
    let x = c.in-Some.variable in
    let first : Meets c.args.graph.now c.demand_goal.new.graph Goal = subst (Demands c.args.graph.now c.demand_goal.new.graph Goal) c.if-not-branch.false c.in_ok-demand_goal.ensures in
    if-ok c.demand_context.result (Demands c.demand_goal.new.graph c.demand_context.new.graph (At s (λ cs xs. Context xs x))) (Demands c.args.graph.now c.demand_context.new.graph Whole)
    (λ b r. demands-both c.args.graph.now c.demand_goal.new.graph c.demand_context.new.graph Goal (At s (λ cs xs. Context xs x)) Whole b (known-depends c.args.graph.now s (λ cs xs. Context xs x) c.requires)
    (λ v e. (e.0, subst (λ (o : Option ℕ). IfSome o (Context (map v s.variables.now))) c.in-Some.is e.1))
    (λ v e f. (e, subst (λ (o : Option ℕ). IfSome o (Context (map v s.variables.now))) (sym c.in-Some.is) f)) first r)
    c.demand_context.ensures

pub returns-in-None : goal.returns-in-None
returns-in-None c =
    let s = c.args.scope.now in
    let d = declared_of s.declared.now in
    let h = c.args.head.now in
    let Goal = At s (λ cs xs. IsTreeTyped d cs xs h.goal) in
    let Whole = At s (λ cs xs. IsHeadTyped d cs xs h) in
    same-demand c.args.graph.now c.demand_goal.new.graph Goal Whole true
    (λ v e. (e, subst (λ (o : Option ℕ). IfSome o (Context (map v s.variables.now))) (sym c.in-None.is) tt)) (λ v e. e.0)
    (subst (Demands c.args.graph.now c.demand_goal.new.graph Goal) c.if-not-branch.false c.in_ok-demand_goal.ensures)
