use Rattle.std.proofs.Common.{◌≡◌, ◌∙◌, length, Some, None, slice_get, sym, arith}
use Rattle.type_graph.specs.declared.node.Word.TheVariants as words
use Rattle.type_graph.specs.Types.{Ty, word, applied}
use Rattle.type_graph.specs.Solved.{Unified}
use Rattle.type_terms.specs.Demands.{Demands, IsContext}
use Rattle.type_terms.proofs.Composing.{if-ok}
use Rattle.type_terms.proofs.Scopes.{at-none}
use Rattle.type_terms.proofs.Demanding.{equal-to, list-node, at-demanded, within-nodes}
use Rattle.type_terms.proofs.demands.demand_context.Goals as goal

abbrev contexts : Ty
contexts = applied (word words.List) (word words.Prop)

pub returns-in_default : goal.returns-in_default
returns-in_default c =
    let none : slice_get c.args.variables.now c.args.variable ≡ None = sym c.node_of.ensures ∙ c.in_default.is in
    λ v s a. at-none c.args.variables.now c.args.variable v contexts none a

pub unify-requires-clause-left : goal.unify-requires-clause-left
unify-requires-clause-left c =
    let at : slice_get c.args.variables.now c.args.variable ≡ Some c.in-Some.node = sym c.node_of.ensures ∙ c.in-Some.is in
    omega (arith, within-nodes c.args.graph.now c.args.variables.now c.args.variable c.in-Some.node at c.requires, c.in_ok-list.ensures.ok.longer, c.in_ok-proposition.ensures.ok.longer, c.in_ok-wanted.ensures.ok.longer)

pub returns : goal.returns
returns c =
    let at : slice_get c.args.variables.now c.args.variable ≡ Some c.in-Some.node = sym c.node_of.ensures ∙ c.in-Some.is in
    let n = c.in-Some.node in
    let w = c.in_ok-wanted.wanted in
    if-ok c.unify.result (Unified c.apply.new.self n w c.unify.new.self) (Demands c.args.graph.now c.unify.new.self (IsContext c.args.variables.now c.args.variable))
    (λ b u. at-demanded c.args.graph.now c.unify.new.self c.args.variables.now c.args.variable n contexts b at
    (equal-to c.args.graph.now c.apply.new.self c.unify.new.self contexts n w b (within-nodes c.args.graph.now c.args.variables.now c.args.variable n at c.requires)
    (list-node c.args.graph.now c.leaf.new.self c.leaf-2.new.self c.apply.new.self c.in_ok-list.list c.in_ok-proposition.proposition w c.in_ok-list.ensures.ok c.in_ok-proposition.ensures.ok c.in_ok-wanted.ensures.ok)
    c.unify.ensures.length u)) c.unify.ensures.unified
