use Rattle.std.proofs.Common.{map, true, subst}
use Rattle.type_terms.specs.Read.{declared_of}
use Rattle.type_terms.specs.Demands.{Demands}
use Rattle.type_check.specs.Typings.{HasItemTyping}
use Rattle.type_check.specs.inside.Order.{item_of}
use Rattle.type_check.proofs.Loops.{none-demanded, next-demanded}
use Rattle.type_check.proofs.Inference.{item-depends, stuck}
use Rattle.type_check.proofs.inferring.type_entries.Goals as goal

pub returns-then-not-branch : goal.returns-then-not-branch
returns-then-not-branch c =
    let d = declared_of c.args.declared.now in
    let cs = c.args.constants.now in
    let e = c.entry-item.result in
    stuck c.args.graph.now c.loop-entry.graph c.type_item.new.graph d cs c.args.entries.now c.loop-entry.entry-index e c.requires c.loop-entry-test.true c.entry-item.is
    c.len-general.ensures.general c.loop-entry.invariant
    (subst (Demands c.loop-entry.graph c.type_item.new.graph (λ v. HasItemTyping d (map v cs) (item_of e))) c.if-not-branch.true c.in_ok-type_item.ensures)

pub loop-entry-preserved : goal.loop-entry-preserved
loop-entry-preserved c =
    let d = declared_of c.args.declared.now in
    let cs = c.args.constants.now in
    let e = c.entry-item.result in
    next-demanded c.args.graph.now c.loop-entry.graph c.type_item.new.graph (λ x v. HasItemTyping d (map v cs) (item_of x)) c.args.entries.now c.loop-entry.entry-index e true c.loop-entry-test.true c.entry-item.is
    (item-depends c.args.graph.now d cs e c.requires) c.loop-entry.invariant
    (subst (Demands c.loop-entry.graph c.type_item.new.graph (λ v. HasItemTyping d (map v cs) (item_of e))) c.if-not-branch.false c.in_ok-type_item.ensures)

pub loop-entry-init : goal.loop-entry-init
loop-entry-init c =
    let d = declared_of c.args.declared.now in
    let cs = c.args.constants.now in
    none-demanded c.args.graph.now (λ x v. HasItemTyping d (map v cs) (item_of x)) c.args.entries.now
