use Rattle.lp_parser.proofs.Readings.{program_sound, program_complete}
use Rattle.lp_parser.proofs.laws.program_read.Goals as goal

pub returns : goal.returns
returns c u is = (program_sound u is, program_complete u is)
