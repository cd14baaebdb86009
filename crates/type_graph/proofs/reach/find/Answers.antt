use Rattle.std.proofs.Common.{◌+◌, ◌-◌, ◌<◌, ◌≤◌, length, sym, refl, subst, ◌∙◌, arith}
use Rattle.type_graph.specs.Graph.{LeadsBelow, node_at}
use Rattle.type_graph.specs.inside.Reach.{unmarked}
use Rattle.type_graph.proofs.Searches.{searched-follow, searched-all, count-follow, longer-follow, get_or-any}
use Rattle.type_graph.proofs.reach.find.Goals as goal

pub loop-index-smaller : goal.loop-index-smaller
loop-index-smaller c =
    let h : c.loop-index.index < length c.loop-index.queue.items = omega (arith, c.loop-index-test.true, c.len.ensures, c.loop-index.queue.ok) in
    let k = c.index-node.result.now in
    let count = count-follow c.loop-index.seen c.follow.new.seen c.loop-index.queue.items c.follow.new.queue.items (node_at c.args.nodes.now k)
    (subst (λ n. LeadsBelow n (node_at c.args.nodes.now k)) (sym c.loop-index.invariant.sized) (c.requires.within k)) c.in_ok-follow.ensures.followed in
    let next : length c.loop-index.queue.items ≤ length c.follow.new.queue.items = longer-follow c.loop-index.seen c.follow.new.seen c.loop-index.queue.items c.follow.new.queue.items (node_at c.args.nodes.now k) c.in_ok-follow.ensures.followed in
    let goal : unmarked c.follow.new.seen + (length c.follow.new.queue.items - (c.loop-index.index + 1)) < unmarked c.loop-index.seen + (length c.loop-index.queue.items - c.loop-index.index) = omega (arith, count, h, next) in goal

pub loop-index-preserved : goal.loop-index-preserved
loop-index-preserved c =
    let h : c.loop-index.index < length c.loop-index.queue.items = omega (arith, c.loop-index-test.true, c.len.ensures, c.loop-index.queue.ok) in
    let k = c.index-node.result.now in
    searched-follow (node_at c.args.nodes.now) (length c.args.nodes.now) c.args.first c.args.second c.loop-index.seen c.follow.new.seen c.loop-index.queue.items c.follow.new.queue.items
    c.loop-index.index k (node_at c.args.nodes.now k) c.loop-index.invariant h (c.index-node.ensures ∙ get_or-any c.loop-index.queue.items c.loop-index.index k 0 h)
    c.if-node-second.false refl c.requires.root (c.requires.within k) c.in_ok-follow.ensures.followed

pub returns-clause-apart : goal.returns-clause-apart
returns-clause-apart c = searched-all (node_at c.args.nodes.now) (length c.args.nodes.now) c.args.first c.args.second c.loop-index.seen c.loop-index.queue.items c.loop-index.index c.loop-index.invariant (omega (arith, c.loop-index-test.false, c.len.ensures))
