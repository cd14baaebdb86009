use Rattle.lp_parser.proofs.Readings.{query_sound, query_complete}
use Rattle.lp_parser.proofs.laws.query_read.Goals as goal

pub returns : goal.returns
returns c u t = (query_sound u t, query_complete u t)
