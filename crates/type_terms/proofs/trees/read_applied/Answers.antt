use Rattle.std.proofs.Common.{subst, [], List, ℕ}
use Rattle.type_terms.specs.Nodes.{Answers}
use Rattle.type_terms.specs.Read.{declared_of, with_binders, HasConstantAt, HasSpine, HasApplied}
use Rattle.type_terms.proofs.Composing.{if-ok}
use Rattle.type_terms.proofs.Readings.{applied-to, applied-none}
use Rattle.type_terms.proofs.trees.read_applied.Goals as goal

pub returns-in-Some : goal.returns-in-Some
returns-in-Some c =
    let s = with_binders c.args.scope.now [] in
    let f = c.in-Some.function in
    let known = subst (Answers c.args.graph.now c.read_constant.new.graph (HasConstantAt (declared_of c.args.scope.now.declared.now) c.args.scope.now.constants.now c.args.constant)) c.in-Some.is c.in_ok-function.ensures in
    if-ok c.read_all.result (Answers c.read_constant.new.graph c.read_all.new.graph (HasSpine (with_binders c.args.scope.now c.new-binders.result.items) f c.args.args.now))
    (Answers c.args.graph.now c.read_all.new.graph (HasApplied s c.args.constant c.args.args.now))
    (λ r rest. applied-to c.args.graph.now c.read_constant.new.graph c.read_all.new.graph c.args.scope.now c.args.constant c.args.args.now f r c.requires known
    (subst (λ (ks : List ℕ). Answers c.read_constant.new.graph c.read_all.new.graph (HasSpine (with_binders c.args.scope.now ks) f c.args.args.now) r) c.new-binders.ensures.items rest))
    c.read_all.ensures.read

pub returns : goal.returns
returns c =
    applied-none c.args.graph.now c.read_constant.new.graph c.args.scope.now c.args.constant c.args.args.now
    (subst (Answers c.args.graph.now c.read_constant.new.graph (HasConstantAt (declared_of c.args.scope.now.declared.now) c.args.scope.now.constants.now c.args.constant)) c.in-None.is c.in_ok-function.ensures)
