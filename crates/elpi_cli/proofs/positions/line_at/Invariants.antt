use Rattle.std.proofs.Common.{◌≡◌, ◌+◌, ◌≤◌, take}
use Rattle.elpi_cli.specs.Positions.{line_feeds}
use Rattle.elpi_cli.proofs.positions.line_at.Given as goal

-- the line behind the bytes so far
abbrev pub invariant-loop-byte : goal.invariant-loop-byte
invariant-loop-byte l = (l.line ≡ line_feeds (take l.byte-index l.byte-items) + 1) × (l.line ≤ l.byte-index + 1)
