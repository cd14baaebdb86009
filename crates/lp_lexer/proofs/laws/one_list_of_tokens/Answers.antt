use Rattle.lp_lexer.proofs.Lists.{is_read, read_is}
use Rattle.lp_lexer.proofs.laws.one_list_of_tokens.Goals as goal

pub returns : goal.returns
returns c u r = (is_read u r, read_is)
