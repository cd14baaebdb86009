-- A sink in memory, some of whose writes fail.
use Rattle.std.specs.Prelude.{ℕ, ◌+◌, List, [], ◌∷◌, length, None, Some, if◌then◌else◌, nat_eq, nat_lt}
use Rattle.std.specs.declared.option.Option.{Option}
use Rattle.lam_io.specs.declared.byte_text.FailEntry.{FailEntry}
use Rattle.lam_io.specs.Faults.{counted}

-- What was written, the room for it, the calls that fail, how many calls and faults there were, and
-- what was written when the first fault had ended.
pub record MemorySink : Type 0 where
  pub written : List ℕ
  pub room : ℕ
  pub failing : List FailEntry
  pub calls : ℕ
  pub faults : ℕ
  pub stopped : Option (List ℕ)

-- how many bytes the first entry for that call keeps
abbrev pub kept_at : List FailEntry → ℕ → Option ℕ
kept_at [] call = None
kept_at (entry ∷ entries) call =
    if nat_eq entry.call call then Some entry.kept else kept_at entries call

-- how many bytes the next call keeps where it fails: none of a piece that passes the room, else
-- as listed
abbrev pub kept_of : MemorySink → List ℕ → Option ℕ
kept_of sink piece =
    if nat_lt sink.room (length sink.written + length piece) then Some 0
    else kept_at sink.failing (counted sink.calls)
