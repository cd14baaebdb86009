use Rattle.std.proofs.Common.{length, ◌≤◌}
use Rattle.lam_io.proofs.host.write_all.Given as goal

-- no more is left than there was
abbrev pub invariant-loop-rest : goal.invariant-loop-rest
invariant-loop-rest g l = length l.rest ≤ length l.fn.piece

-- what is left to write grows shorter
abbrev pub decreases-loop-rest : goal.decreases-loop-rest
decreases-loop-rest g l = length l.rest
