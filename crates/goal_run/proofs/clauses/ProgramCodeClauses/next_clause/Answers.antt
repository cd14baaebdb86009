use Rattle.goal_run.proofs.clauses.ProgramCodeClauses.next_clause.Goals as goal

pub returns : goal.returns
returns c = λ ns p stands. c.next_from.ensures p stands.index
