use Rattle.lp_parser.proofs.Readings.{program_unexpected, unexpected_program}
use Rattle.lp_parser.proofs.laws.program_unexpected.Goals as goal

pub returns : goal.returns
returns c u i r = (program_unexpected u i r, unexpected_program u i r)
