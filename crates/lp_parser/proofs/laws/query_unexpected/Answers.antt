use Rattle.lp_parser.proofs.Readings.{query_unexpected, unexpected_query}
use Rattle.lp_parser.proofs.laws.query_unexpected.Goals as goal

pub returns : goal.returns
returns c u i r = (query_unexpected u i r, unexpected_query u i r)
