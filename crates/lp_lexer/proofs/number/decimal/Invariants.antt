use Rattle.std.proofs.Common.{◌≡◌, ◌≤◌, ◌^◌, drop}
use Rattle.lp_lexer.specs.Numbers.{decimal}
use Rattle.lp_lexer.proofs.number.decimal.Given as goal

abbrev pub invariant-loop-ch : goal.invariant-loop-ch
invariant-loop-ch l = (decimal l.value (drop l.ch-index l.text) ≡ decimal 0 l.text) × (l.value ≤ 2 ^ 63)
