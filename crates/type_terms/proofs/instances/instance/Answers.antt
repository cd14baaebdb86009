use Rattle.std.proofs.Common.{List, ℕ, subst}
use Rattle.type_terms.specs.Nodes.{Reads}
use Rattle.type_terms.specs.inside.Instances.{IsOver}
use Rattle.type_terms.specs.Schemes.{IsInstanceOf}
use Rattle.type_terms.proofs.Composing.{if-ok}
use Rattle.type_terms.proofs.Instancing.{instanced}
use Rattle.type_terms.proofs.instances.instance.Goals as goal

pub returns : goal.returns
returns c =
    if-ok c.build.result (Reads c.free_nodes.new.graph c.build.new.graph (IsOver c.deref.result.now c.args.polytype.now.scheme)) (Reads c.args.graph.now c.build.new.graph (λ v t. IsInstanceOf c.args.polytype.now t))
    (λ n r. instanced c.args.graph.now c.free_nodes.new.graph c.build.new.graph c.args.polytype.now c.in_ok-nodes.nodes.items n c.in_ok-nodes.ensures
    (subst (λ (ks : List ℕ). Reads c.free_nodes.new.graph c.build.new.graph (IsOver ks c.args.polytype.now.scheme) n) c.deref.ensures.value r)) c.build.ensures
