use Rattle.std.proofs.Common.{get_or, subst}
use Rattle.type_graph.specs.declared.node.Node.TheVariants.{Leaf, Apply}
use Rattle.type_graph.specs.declared.node.Word.TheVariants.{Int}
use Rattle.type_graph.specs.Solved.{Adds}
use Rattle.type_terms.specs.declared.scheme.Scheme.{Scheme}
use Rattle.type_terms.specs.Nodes.{Reads}
use Rattle.type_terms.specs.inside.Instances.{IsOver}
use Rattle.type_terms.proofs.Composing.{if-ok}
use Rattle.type_terms.proofs.Instancing.{variable-there, variable-past, built, any}
use Rattle.type_terms.proofs.instances.+build.Goals as goal

pub returns-then-index-nodes : goal.returns-then-index-nodes
returns-then-index-nodes t c =
    variable-there c.args.graph.now c.args.nodes.now c.in-Variable.index c.args.scheme.now (get_or c.args.nodes.now c.in-Variable.index 0) c.requires c.in-Variable.is c.if-index-nodes.true
    (any c.args.nodes.now c.in-Variable.index 0 (get_or c.args.nodes.now c.in-Variable.index 0) c.if-index-nodes.true)

pub returns-else-index-nodes : goal.returns-else-index-nodes
returns-else-index-nodes t c =
    if-ok c.leaf.result (λ n. Adds c.args.graph.now (Leaf Int) n c.leaf.new.self) (Reads c.args.graph.now c.leaf.new.self (IsOver c.args.nodes.now c.args.scheme.now))
    (λ n x. variable-past c.args.graph.now c.leaf.new.self c.args.nodes.now c.in-Variable.index c.args.scheme.now n c.in-Variable.is c.if-index-nodes.false x) c.leaf.ensures.ok

pub returns-in_ok-right-in-Apply : goal.returns-in_ok-right-in-Apply
returns-in_ok-right-in-Apply t c =
    let left : Reads c.args.graph.now c.build.new.graph (IsOver c.args.nodes.now c.in-Apply.left) c.in_ok-left-in-Apply.left =
    subst (λ (s : Scheme). Reads c.args.graph.now c.build.new.graph (IsOver c.args.nodes.now s) c.in_ok-left-in-Apply.left) c.get.ensures c.in_ok-left-in-Apply.ensures in
    let right : Reads c.build.new.graph c.build-in-Apply.new.graph (IsOver c.args.nodes.now c.in-Apply.right) c.in_ok-right-in-Apply.right =
    subst (λ (s : Scheme). Reads c.build.new.graph c.build-in-Apply.new.graph (IsOver c.args.nodes.now s) c.in_ok-right-in-Apply.right) c.get-in-Apply.ensures c.in_ok-right-in-Apply.ensures in
    if-ok c.apply.result (λ n. Adds c.build-in-Apply.new.graph (Apply c.in_ok-left-in-Apply.left c.in_ok-right-in-Apply.right) n c.apply.new.self) (Reads c.args.graph.now c.apply.new.self (IsOver c.args.nodes.now c.args.scheme.now))
    (λ n z. built c.args.graph.now c.build.new.graph c.build-in-Apply.new.graph c.apply.new.self c.args.nodes.now c.in-Apply.left c.in-Apply.right c.args.scheme.now c.in_ok-left-in-Apply.left c.in_ok-right-in-Apply.right n
    c.requires c.in-Apply.is left right z) c.apply.ensures.ok
