use Rattle.goal_run.proofs.CodeLemmas.{same-valid, valid-same, body-made}
use Rattle.goal_run.proofs.clauses.make_body.Goals as goal

pub body_of-requires-clause-variables : goal.body_of-requires-clause-variables
body_of-requires-clause-variables c = valid-same c.args.heap.now c.args.variables.items c.args.depth c.requires.variables

pub returns-clause-made : goal.returns-clause-made
returns-clause-made c = λ n p k code here.
    body-made k c.args.depth c.args.heap.now c.body_of.new.heap _ c.in_ok-body.body (c.in_ok-body.ensures.body n p k code here)

pub returns-clause-valid : goal.returns-clause-valid
returns-clause-valid c =
    let r = c.requires.code in
    same-valid c.body_of.new.heap _ c.args.depth (c.in_ok-body.ensures.body r.0 r.1 r.2 r.3 r.4).valid

pub returns-clause-variables : goal.returns-clause-variables
returns-clause-variables c =
    let r = c.requires.code in
    (c.in_ok-body.ensures.body r.0 r.1 r.2 r.3 r.4).depths
