use Rattle.std.proofs.Common.{◌≡◌, ◌+◌, drop}
use Rattle.lp_lexer.specs.Scan.{digits_len}
use Rattle.lp_lexer.proofs.scan.digits_len.Given as goal

abbrev pub invariant-loop-index : goal.invariant-loop-index
invariant-loop-index l = digits_len (drop l.index l.text) + l.index ≡ digits_len l.text
