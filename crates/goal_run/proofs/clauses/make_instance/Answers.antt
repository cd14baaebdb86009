use Rattle.goal_run.proofs.CodeLemmas.{head-made}
use Rattle.goal_run.proofs.clauses.make_instance.Goals as goal

pub returns-clause-made : goal.returns-clause-made
returns-clause-made c = λ n p k code here.
    head-made k c.args.depth c.args.heap.now c.head_of.new.heap c.head_of.new.instance (c.in_ok-head_of.ensures.head n p k code here)
