use Rattle.std.proofs.Common.{◌≡◌, ◌∙◌, length, sym, subst}
use Rattle.type_graph.specs.declared.node.Node.TheVariants.{Same}
use Rattle.type_graph.specs.Graph.{LeadsBelow, Descends, node_at}
use Rattle.type_texts.specs.inside.Readings.{ReadsAs}
use Rattle.type_texts.proofs.ends.end_of.Goals as goal

pub loop-next-smaller : goal.loop-next-smaller
loop-next-smaller c =
    let e : node_at c.args.graph.now c.loop-next.at ≡ Same c.in-Same.next = sym c.node.ensures ∙ c.in-Same.is in
    subst (Descends c.loop-next.at) e (c.len-count.ensures.descending c.loop-next.at)

pub loop-next-preserved : goal.loop-next-preserved
loop-next-preserved c =
    let e : node_at c.args.graph.now c.loop-next.at ≡ Same c.in-Same.next = sym c.node.ensures ∙ c.in-Same.is in
    record {
      within = subst (LeadsBelow (length c.args.graph.now)) e (c.len-count.ensures.sound c.loop-next.at);
      same = λ u reading. sym (subst (ReadsAs u c.loop-next.at (u c.loop-next.at)) e (reading c.loop-next.at)) ∙ c.loop-next.invariant.same u reading;
    }
