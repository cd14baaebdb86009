use Rattle.std.proofs.Common.{◌≡◌, drop}
use Rattle.lp_lexer.specs.Scan.{comment_end}
use Rattle.lp_lexer.proofs.scan.comment_end.Given as goal

abbrev pub invariant-loop-index : goal.invariant-loop-index
invariant-loop-index l = comment_end l.index (drop l.index l.text) ≡ comment_end l.fn.from (drop l.fn.from l.text)
