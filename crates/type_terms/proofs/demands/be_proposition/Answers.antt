use Rattle.std.proofs.Common.{◌≡◌}
use Rattle.type_graph.specs.declared.node.Word.TheVariants.{Prop}
use Rattle.type_graph.specs.Types.{word}
use Rattle.type_graph.specs.Solved.{Unified}
use Rattle.type_terms.specs.Demands.{Demands}
use Rattle.type_terms.proofs.Composing.{if-ok, of-word}
use Rattle.type_terms.proofs.Demanding.{equal-to}
use Rattle.type_terms.proofs.demands.be_proposition.Goals as goal

pub returns : goal.returns
returns c =
    let n = c.in_ok-proposition.proposition in
    if-ok c.unify.result (Unified c.leaf.new.self c.args.node n c.unify.new.self) (Demands c.args.graph.now c.unify.new.self (λ v. v c.args.node ≡ word Prop))
    (λ b u. equal-to c.args.graph.now c.leaf.new.self c.unify.new.self (word Prop) c.args.node n b c.requires
    (of-word c.args.graph.now c.leaf.new.self Prop n c.in_ok-proposition.ensures.ok) c.unify.ensures.length u) c.unify.ensures.unified
