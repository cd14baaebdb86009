use Rattle.lp_parser.proofs.Readings.{one_program}
use Rattle.lp_parser.proofs.laws.one_program.Goals as goal

pub returns : goal.returns
returns c u is js p q = one_program u is js p q
