use Rattle.goal_run.proofs.CodeLemmas.{some-code}
use Rattle.goal_run.proofs.clauses.ProgramCodeClauses.clauses.Goals as goal

pub returns : goal.returns
returns c = λ ns p w. c.clauses.ensures _ _ p (some-code ns c.args.self.now p w)
