use Rattle.lp_parser.proofs.Readings.{one_query}
use Rattle.lp_parser.proofs.laws.one_query.Goals as goal

pub returns : goal.returns
returns c u s t p q = one_query u s t p q
