use Rattle.std.proofs.Common.{◌≡◌, ◌∙◌, None, slice_get, sym}
use Rattle.type_graph.specs.Solved.{Unified}
use Rattle.type_terms.specs.Demands.{Demands, IsPair}
use Rattle.type_terms.proofs.Composing.{if-ok}
use Rattle.type_terms.proofs.Scopes.{at-none}
use Rattle.type_terms.proofs.Demanding.{unified, pair-demanded, within-nodes}
use Rattle.type_terms.proofs.demands.demand_pair.Goals as goal

pub returns-in_default : goal.returns-in_default
returns-in_default c =
    let none : slice_get c.args.variables.now c.args.left ≡ None = sym c.node_of.ensures ∙ c.in_default.is in
    λ v s p. at-none c.args.variables.now c.args.left v p.0 none p.1

pub returns-in_default-node_of : goal.returns-in_default-node_of
returns-in_default-node_of c =
    let none : slice_get c.args.variables.now c.args.right ≡ None = sym c.node_of-2.ensures ∙ c.in_default-node_of.is in
    λ v s p. at-none c.args.variables.now c.args.right v p.0 none p.2

pub unify-requires-clause-left : goal.unify-requires-clause-left
unify-requires-clause-left c = within-nodes c.args.graph.now c.args.variables.now c.args.left c.in-Some.left (sym c.node_of.ensures ∙ c.in-Some.is) c.requires

pub unify-requires-clause-right : goal.unify-requires-clause-right
unify-requires-clause-right c = within-nodes c.args.graph.now c.args.variables.now c.args.right c.in-Some-node_of.right (sym c.node_of-2.ensures ∙ c.in-Some-node_of.is) c.requires

pub returns : goal.returns
returns c =
    if-ok c.unify.result (Unified c.args.graph.now c.in-Some.left c.in-Some-node_of.right c.unify.new.self) (Demands c.args.graph.now c.unify.new.self (IsPair c.args.variables.now c.args.left c.args.right))
    (λ b u. pair-demanded c.args.graph.now c.unify.new.self c.args.variables.now c.args.left c.args.right c.in-Some.left c.in-Some-node_of.right b
    (sym c.node_of.ensures ∙ c.in-Some.is) (sym c.node_of-2.ensures ∙ c.in-Some-node_of.is)
    (unified c.args.graph.now c.unify.new.self c.in-Some.left c.in-Some-node_of.right b c.unify.ensures.length u)) c.unify.ensures.unified
