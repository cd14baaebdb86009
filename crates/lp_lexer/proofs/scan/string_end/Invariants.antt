use Rattle.std.proofs.Common.{◌≡◌, ◌-◌, ◌≤◌, drop, length}
use Rattle.lp_lexer.specs.Scan.{string_end}
use Rattle.lp_lexer.proofs.scan.string_end.Given as goal

abbrev pub invariant-loop-index : goal.invariant-loop-index
invariant-loop-index l = (string_end l.index (drop l.index l.text) ≡ string_end l.fn.from (drop l.fn.from l.text)) × (l.index ≤ length l.text)

abbrev pub decreases-loop-index : goal.decreases-loop-index
decreases-loop-index l = length l.text - l.index
