use Rattle.std.proofs.Common.{◌≡◌, ◌++◌, drop, if◌then◌else◌}
use Rattle.lp_parser.specs.Lexemes.{unescaped, behind_escape}
use Rattle.lp_parser.proofs.token.unescape.Given as goal

abbrev pub invariant-loop-byte : goal.invariant-loop-byte
invariant-loop-byte l = l.meaning ++ (if l.is_escaped then behind_escape (drop l.byte-index l.text) else unescaped (drop l.byte-index l.text)) ≡ unescaped l.text
