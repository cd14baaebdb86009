use Rattle.std.proofs.Common.{◌≡◌, ◌+◌, drop}
use Rattle.lp_lexer.specs.Scan.{name_len}
use Rattle.lp_lexer.proofs.scan.name_len.Given as goal

abbrev pub invariant-loop-index : goal.invariant-loop-index
invariant-loop-index l = name_len (drop l.index l.text) + l.index ≡ name_len l.text
