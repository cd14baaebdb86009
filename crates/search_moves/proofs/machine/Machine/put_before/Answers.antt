use Rattle.std.proofs.Common.{refl, arith}
use Rattle.search_moves.proofs.WakeMoves.{no-goals, last-goal, putting-goes, putting-ends}
use Rattle.search_moves.proofs.machine.Machine.put_before.Goals as goal

pub loop-goal-init : goal.loop-goal-init
loop-goal-init c = record { heap = refl; valid = c.requires; branch = refl; saved = refl; phase = refl; code = refl; alternatives = λ p. refl }

pub put-requires-clause-term : goal.put-requires-clause-term
put-requires-clause-term c = (last-goal c.args.self.now c.loop-goal.self c.args.goals.items c.loop-goal.left.items c.pop.new.self.items c.in-Some.goal c.loop-goal.invariant c.in-Some.ensures.items).0

pub put-requires-clause-context : goal.put-requires-clause-context
put-requires-clause-context c = (last-goal c.args.self.now c.loop-goal.self c.args.goals.items c.loop-goal.left.items c.pop.new.self.items c.in-Some.goal c.loop-goal.invariant c.in-Some.ensures.items).1

pub loop-goal-preserved : goal.loop-goal-preserved
loop-goal-preserved c =
    putting-goes c.args.self.now c.loop-goal.self c.put.new.self c.args.goals.items c.loop-goal.left.items c.pop.new.self.items c.in-Some.goal c.loop-goal.invariant c.in-Some.ensures.items
    c.in_ok-put.ensures.branch c.put.ensures.heap c.put.ensures.saved c.put.ensures.phase c.put.ensures.code c.put.ensures.alternatives

pub returns-clause-branch : goal.returns-clause-branch
returns-clause-branch c =
    let none = no-goals c.loop-goal.left.items (omega (arith, c.loop-goal.left.ok, c.in_default.ensures.cases.0)) in
    putting-ends c.args.self.now c.loop-goal.self c.args.goals.items c.loop-goal.left.items c.loop-goal.invariant none
