use Rattle.goal_run.proofs.code.ProgramCode.new.Goals as goal

pub returns-clause-shapes : goal.returns-clause-shapes
returns-clause-shapes c = λ n g p is. c.in_ok-shapes.ensures n g p (c.rules.ensures n g p is)
