use Rattle.std.proofs.Common.{◌≡◌, [], subst}
use Rattle.type_graph.specs.declared.node.Word.TheVariants.{Prop}
use Rattle.type_graph.specs.Types.{word}
use Rattle.type_terms.specs.Nodes.{Answers, Reads}
use Rattle.type_terms.specs.Read.{HasApplied, with_binders}
use Rattle.type_terms.specs.Demands.{Demands, IsAppliedGoal}
use Rattle.type_terms.proofs.Composing.{if-ok}
use Rattle.type_terms.proofs.Demanding.{read-demanded}
use Rattle.type_terms.proofs.demands.demand_applied.Goals as goal

pub returns-in-Some : goal.returns-in-Some
returns-in-Some c =
    let s = with_binders c.args.scope.now [] in
    let J = HasApplied s c.args.constant c.args.args.now in
    let found : Reads c.args.graph.now c.read_applied.new.graph J c.in-Some.node = subst (Answers c.args.graph.now c.read_applied.new.graph J) c.in-Some.is c.in_ok-node.ensures in
    if-ok c.be_proposition.result (Demands c.read_applied.new.graph c.be_proposition.new.graph (λ v. v c.in-Some.node ≡ word Prop))
    (Demands c.args.graph.now c.be_proposition.new.graph (IsAppliedGoal s c.args.constant c.args.args.now))
    (λ b d. read-demanded c.args.graph.now c.read_applied.new.graph c.be_proposition.new.graph J (word Prop) c.in-Some.node b found d) c.be_proposition.ensures
