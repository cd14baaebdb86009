use Rattle.std.proofs.Common.{◌≡◌, drop}
use Rattle.lam_io.specs.MemorySink.{kept_at}
use Rattle.lam_io.proofs.sink.kept_in.Given as goal

-- the entries that are left have what all of them have
abbrev pub invariant-loop-entry : goal.invariant-loop-entry
invariant-loop-entry l = kept_at (drop l.entry-index l.entries) l.call ≡ kept_at l.fn.entries l.call
