use Rattle.std.proofs.Common.{◌≡◌, ℕ, List, [], None, subst}
use Rattle.type_graph.specs.declared.node.Word.TheVariants.{Prop}
use Rattle.type_graph.specs.Types.{word}
use Rattle.type_terms.specs.Nodes.{Answers, Reads}
use Rattle.type_terms.specs.Read.{HasTree, with_binders}
use Rattle.type_terms.specs.Demands.{Demands, IsGoal}
use Rattle.type_terms.proofs.Composing.{if-ok}
use Rattle.type_terms.proofs.Demanding.{read-demanded}
use Rattle.type_terms.proofs.demands.demand_goal.Goals as goal

pub returns-in-Some : goal.returns-in-Some
returns-in-Some c =
    let s = with_binders c.args.scope.now [] in
    let tree = c.args.goal.now in
    let found : Reads c.args.graph.now c.read.new.graph (HasTree s tree) c.in-Some.node =
    subst (λ (ks : List ℕ). Reads c.args.graph.now c.read.new.graph (HasTree (with_binders c.args.scope.now ks) tree) c.in-Some.node) c.new-binders.ensures.items
    (subst (Answers c.args.graph.now c.read.new.graph (HasTree (with_binders c.args.scope.now c.new-binders.result.items) tree)) c.in-Some.is c.in_ok-node.ensures.read) in
    if-ok c.be_proposition.result (Demands c.read.new.graph c.be_proposition.new.graph (λ v. v c.in-Some.node ≡ word Prop)) (Demands c.args.graph.now c.be_proposition.new.graph (IsGoal s tree))
    (λ b d. read-demanded c.args.graph.now c.read.new.graph c.be_proposition.new.graph (HasTree s tree) (word Prop) c.in-Some.node b found d) c.be_proposition.ensures

pub returns : goal.returns
returns c =
    let tree = c.args.goal.now in
    let none : Answers c.args.graph.now c.read.new.graph (HasTree (with_binders c.args.scope.now []) tree) None =
    subst (λ (ks : List ℕ). Answers c.args.graph.now c.read.new.graph (HasTree (with_binders c.args.scope.now ks) tree) None) c.new-binders.ensures.items
    (subst (Answers c.args.graph.now c.read.new.graph (HasTree (with_binders c.args.scope.now c.new-binders.result.items) tree)) c.in-None.is c.in_ok-node.ensures.read) in
    λ v s j. none v (word Prop) s j
