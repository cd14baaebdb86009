use Rattle.std.proofs.Common.{◌+◌, arith, drop}
use Rattle.std.proofs.lemmas.Grind.{common_steps}
use Rattle.lp_lexer.proofs.Numbers.{past_limit}
use Rattle.lp_lexer.proofs.number.decimal.Goals as goal

pub returns-then-value-gt-LIMIT : goal.returns-then-value-gt-LIMIT
returns-then-value-gt-LIMIT c = past_limit _ _ (drop (c.loop-ch.ch-index + 1) c.args.text.now) (grind (arith, common_steps)) c.if-value-gt-LIMIT.true
