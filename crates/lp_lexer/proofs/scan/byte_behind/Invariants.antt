use Rattle.std.proofs.Common.{◌≡◌, ◌+◌, drop}
use Rattle.lp_lexer.specs.Scan.{utf8_len}
use Rattle.lp_lexer.proofs.scan.byte_behind.Given as goal

abbrev pub invariant-loop-ch : goal.invariant-loop-ch
invariant-loop-ch l = l.end + utf8_len (drop l.ch-index l.text) ≡ l.fn.at + utf8_len l.text
