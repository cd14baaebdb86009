use Rattle.hyp_clause.specs.inside.Parts.{task_of, seen}
use Rattle.hyp_clause.specs.inside.Waiting.{waiting}
use Rattle.hyp_clause.proofs.WaitLemmas.{goes-on}
use Rattle.hyp_clause.proofs.compile.step.Goals as goal

pub returns-in-Ok-clause-ok : goal.returns-in-Ok-clause-ok
returns-in-Ok-clause-ok c =
    goes-on c.args.heap.now c.turn.new.heap c.args.depth (task_of c.args.part) c.args.hyps.now (waiting c.args.parts.now.items) (seen c.in_ok-found.found) c.take_in.new.hyps (waiting c.take_in.new.parts.items)
    c.is_sound.ensures c.turn.ensures.grows c.requires.part c.requires.hyps c.in_ok-found.ensures.turn c.in-Ok.ensures.ok
