use Rattle.std.proofs.Common.{◌≡◌, ◌+◌, ◌≤◌, take}
use Rattle.elpi_cli.specs.Positions.{characters, last_line}
use Rattle.elpi_cli.proofs.positions.column_at.Given as goal

-- the column behind the bytes so far
abbrev pub invariant-loop-byte : goal.invariant-loop-byte
invariant-loop-byte l = (l.column ≡ characters (last_line (take l.byte-index l.byte-items)) + 1) × (l.column ≤ l.byte-index + 1)
