use Rattle.std.proofs.Common.{◌≡◌, ℕ, subst, arith}
use Rattle.type_terms.proofs.Instancing.{Freed, freed-first, freed-next, freed-all}
use Rattle.type_terms.proofs.instances.free_nodes.Goals as goal

pub loop-index-init : goal.loop-index-init
loop-index-init c = freed-first c.args.graph.now c.new-nodes.result.items c.new-nodes.ensures.items

pub loop-index-preserved : goal.loop-index-preserved
loop-index-preserved c =
    freed-next c.args.graph.now c.loop-index.graph c.free.new.self c.loop-index._index c.loop-index.nodes.items c.push.new.self.items c.in_ok-node.node c.loop-index.invariant c.in_ok-node.ensures.ok c.in_ok-push.ensures.items

pub returns : goal.returns
returns c =
    let e : c.loop-index._index ≡ c.args.count = omega (arith, c.loop-index-test.false, c.loop-index.auto._index-end) in
    freed-all c.args.graph.now c.loop-index.graph c.args.count c.loop-index.nodes.items
    (subst (λ (i : ℕ). Freed c.args.graph.now i c.loop-index.nodes.items c.loop-index.graph) e c.loop-index.invariant)
