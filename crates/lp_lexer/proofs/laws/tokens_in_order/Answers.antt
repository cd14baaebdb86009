use Rattle.lp_lexer.proofs.Lists.{in_order}
use Rattle.lp_lexer.proofs.laws.tokens_in_order.Goals as goal

pub returns : goal.returns
returns c u ts e = in_order u ts e
