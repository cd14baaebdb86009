use Rattle.std.proofs.Common.{◌∙◌, subst}
use Rattle.beta_fragment.specs.inside.Pairs.{MayDivide, MayTell}
use Rattle.beta_fragment.proofs.PairLemmas.{divides-none, divides-equal, decided}
use Rattle.beta_fragment.proofs.equality.compared_nodes.Goals as goal

pub returns-then-pair : goal.returns-then-pair
returns-then-pair c = divides-equal c.args.heap.now c.args.pair c.args.work.now.items c.if-pair.true

pub returns-then-is_one_variable : goal.returns-then-is_one_variable
returns-then-is_one_variable c = divides-none c.args.heap.now c.args.pair c.args.work.now.items (c.is_one_variable.ensures c.if-is_one_variable.true)

pub returns : goal.returns
returns c =
    let untold = subst (MayTell c.args.heap.now c.args.pair c.args.work.now.items c.same_spines.new.work.items) c.in_default-2.is c.in_ok-equal.ensures in
    let stays = subst (MayDivide c.args.heap.now c.args.pair c.same_spines.new.work.items c.push_parts.new.work.items) c.if-branch.false c.in_ok-push_parts.ensures in
    decided c.args.heap.now c.args.pair c.args.work.now.items c.push_parts.new.work.items c.in_ok-equal-2.equal (stays ∙ untold) c.in_ok-equal-2.ensures
