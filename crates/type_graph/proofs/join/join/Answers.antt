use Rattle.std.proofs.Common.{◌≡◌, ◌+◌, ◌*◌, ◌≤◌, ◌∷◌, [], ◌++◌, length, ap, ◌∙◌, arith, rules, slice_set}
use Rattle.type_graph.specs.declared.node.Node.TheVariants.{Same}
use Rattle.type_graph.specs.Graph.{node_at}
use Rattle.type_graph.specs.inside.Reach.{IsPart}
use Rattle.type_graph.specs.Solved.{Joined, roots}
use Rattle.type_graph.proofs.Solutions.{joined-free, joined-taken, joined-leaves, joined-applications, clash-part, clash-taken, roots-taken}
use Rattle.type_graph.proofs.Outcomes.{either, if-yes}
use Rattle.type_graph.proofs.join.join.Goals as goal

pub returns-in-Free-clause-joined : goal.returns-in-Free-clause-joined
returns-in-Free-clause-joined c =
    let ns = c.args.nodes.now in
    let low = c.args.low in
    let high = c.args.high in
    let pairs = c.args.pairs.now.items in
    either c.point.result (c.point.new.nodes ≡ slice_set ns high (Same low)) (IsPart (node_at ns) low high) (Joined ns pairs low high c.point.new.nodes pairs)
    c.point.ensures.pointed c.point.ensures.part
    (λ e. joined-free ns c.point.new.nodes pairs low high c.requires.high c.in-Free.is e) (clash-part ns low high)

pub returns-in-Free-nodes-clause-joined : goal.returns-in-Free-nodes-clause-joined
returns-in-Free-nodes-clause-joined c =
    let ns = c.args.nodes.now in
    let low = c.args.low in
    let high = c.args.high in
    let pairs = c.args.pairs.now.items in
    let t = c.take_over in
    either t.result (t.new.nodes ≡ slice_set (slice_set ns low (node_at ns high)) high (Same low)) (IsPart (node_at ns) high low) (Joined ns pairs low high t.new.nodes pairs)
    t.ensures.taken t.ensures.part
    (λ e. joined-taken ns t.new.nodes pairs low high c.requires.low c.requires.high c.in-Free-nodes.is e) (clash-taken ns low high)

pub returns-in-Free-nodes-2-clause-joined : goal.returns-in-Free-nodes-2-clause-joined
returns-in-Free-nodes-2-clause-joined c =
    let ns = c.args.nodes.now in
    let low = c.args.low in
    let high = c.args.high in
    let pairs = c.args.pairs.now.items in
    let t = c.take_over-in-Free-nodes-2 in
    either t.result (t.new.nodes ≡ slice_set (slice_set ns low (node_at ns high)) high (Same low)) (IsPart (node_at ns) high low) (Joined ns pairs low high t.new.nodes pairs)
    t.ensures.taken t.ensures.part
    (λ e. joined-taken ns t.new.nodes pairs low high c.requires.low c.requires.high c.in-Free-nodes-2.is e) (clash-taken ns low high)

pub returns-in-Free-nodes-clause-fewer : goal.returns-in-Free-nodes-clause-fewer
returns-in-Free-nodes-clause-fewer c =
    let ns = c.args.nodes.now in
    let low = c.args.low in
    let high = c.args.high in
    let pairs = c.args.pairs.now.items in
    let t = c.take_over in
    if-yes t.result (t.new.nodes ≡ slice_set (slice_set ns low (node_at ns high)) high (Same low)) (2 * roots t.new.nodes + length pairs ≤ 2 * roots ns + length pairs) t.ensures.taken
    (λ e. let m = roots-taken ns low high c.requires.low c.requires.high c.requires.low_root c.requires.high_root in let n = ap roots e in omega (arith, m, n))

pub returns-in-Free-nodes-2-clause-fewer : goal.returns-in-Free-nodes-2-clause-fewer
returns-in-Free-nodes-2-clause-fewer c =
    let ns = c.args.nodes.now in
    let low = c.args.low in
    let high = c.args.high in
    let pairs = c.args.pairs.now.items in
    let t = c.take_over-in-Free-nodes-2 in
    if-yes t.result (t.new.nodes ≡ slice_set (slice_set ns low (node_at ns high)) high (Same low)) (2 * roots t.new.nodes + length pairs ≤ 2 * roots ns + length pairs) t.ensures.taken
    (λ e. let m = roots-taken ns low high c.requires.low c.requires.high c.requires.low_root c.requires.high_root in let n = ap roots e in omega (arith, m, n))

pub returns-else-ne-clause-joined : goal.returns-else-ne-clause-joined
returns-else-ne-clause-joined c =
    let ns = c.args.nodes.now in
    let low = c.args.low in
    let high = c.args.high in
    let pairs = c.args.pairs.now.items in
    let t = c.point-in-Leaf-nodes in
    let w = c.in-Leaf.is in
    let u = c.in-Leaf-nodes.is in
    let ne = c.ne.ensures in
    let if' = c.if-ne in
    either t.result (t.new.nodes ≡ slice_set ns high (Same low)) (IsPart (node_at ns) low high) (Joined ns pairs low high t.new.nodes pairs)
    t.ensures.pointed t.ensures.part
    (λ e. joined-leaves ns t.new.nodes pairs low high c.in-Leaf-nodes.left c.in-Leaf.right c.requires.low c.requires.high u w (search rules) e) (clash-part ns low high)

pub returns-in_ok-push-in-Apply-nodes-2-2-clause-joined : goal.returns-in_ok-push-in-Apply-nodes-2-2-clause-joined
returns-in_ok-push-in-Apply-nodes-2-2-clause-joined c =
    let ns = c.args.nodes.now in
    let low = c.args.low in
    let high = c.args.high in
    let pairs = c.args.pairs.now.items in
    let pairs' = c.push-in-Apply-nodes-2.new.self.items in
    let t = c.point-in-Apply-nodes-2 in
    let one = c.in_ok-push-in-Apply-nodes-2.ensures.items in
    let two = c.in_ok-push-in-Apply-nodes-2-2.ensures.items in
    either t.result (t.new.nodes ≡ slice_set ns high (Same low)) (IsPart (node_at ns) low high) (Joined ns pairs low high t.new.nodes pairs')
    t.ensures.pointed t.ensures.part
    (λ e. joined-applications ns t.new.nodes pairs pairs' low high c.in-Apply-nodes-2.left c.in-Apply-nodes-2.left_argument c.in-Apply.right c.in-Apply.right_argument
    c.requires.low c.requires.high c.in-Apply-nodes-2.is c.in-Apply.is e (two ∙ ap (λ ps. ps ++ record { left = c.in-Apply-nodes-2.left_argument; right = c.in-Apply.right_argument } ∷ []) one)) (clash-part ns low high)
