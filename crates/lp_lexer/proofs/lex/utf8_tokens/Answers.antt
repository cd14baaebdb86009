use Rattle.std.proofs.Common.{◌∙◌}
use Rattle.lp_lexer.proofs.Lists.{refused}
use Rattle.lp_lexer.proofs.lex.utf8_tokens.Goals as goal

pub returns-in-Err-clause-fault : goal.returns-in-Err-clause-fault
returns-in-Err-clause-fault c = refused c.args.text.now c.valid_up_to.result c.in-Err.ensures.cases.0 (c.valid_up_to.ensures ∙ c.in-Err.ensures.valid_len)
