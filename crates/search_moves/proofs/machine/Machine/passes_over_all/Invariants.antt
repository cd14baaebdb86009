use Rattle.std.proofs.Common.{length, Bool, List, Option}
use Rattle.hyp_clause.specs.Hyps.{AllHypsValid}
use Rattle.search_moves.specs.World.{AllUsable}
use Rattle.search_moves.specs.Calling.{HasInputs, AllHypsClash}
use Rattle.search_moves.proofs.machine.Machine.passes_over_all.Given as goal

-- what is left is as good, and where all of it clashes, all that there was does
abbrev pub invariant-loop-hyp : goal.invariant-loop-hyp
invariant-loop-hyp l = record {
  valid : AllHypsValid l.self.world.heap l.left;
  usable : AllUsable l.self.world.heap l.call.goal.now.depth l.left;
  rest : (modes : Option (List Bool)) → HasInputs l.call modes → AllHypsClash l.self l.call.goal.now modes l.left → AllHypsClash l.self l.call.goal.now modes l.fn.hyps;
}

abbrev pub decreases-loop-hyp : goal.decreases-loop-hyp
decreases-loop-hyp l = length l.left
