use Rattle.std.proofs.Common.{◌≡◌, ◌+◌, ◌≤◌, drop}
use Rattle.lp_lexer.specs.Scan.{utf8_len}
use Rattle.lp_lexer.proofs.front.is_long.Given as goal

abbrev pub invariant-loop-ch : goal.invariant-loop-ch
invariant-loop-ch l = (l.bytes + utf8_len (drop l.ch-index l.word) ≡ utf8_len l.word) × (l.bytes ≤ 255)
