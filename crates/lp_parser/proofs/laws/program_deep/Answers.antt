use Rattle.lp_parser.proofs.Readings.{program_deep, deep_program}
use Rattle.lp_parser.proofs.laws.program_deep.Goals as goal

pub returns : goal.returns
returns c u i = (program_deep u i, deep_program u i)
