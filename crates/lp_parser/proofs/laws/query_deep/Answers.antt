use Rattle.lp_parser.proofs.Readings.{query_deep, deep_query}
use Rattle.lp_parser.proofs.laws.query_deep.Goals as goal

pub returns : goal.returns
returns c u i = (query_deep u i, deep_query u i)
