-- Files in memory, some of whose reads fail.
use Rattle.std.specs.Prelude.{ℕ, List, Contains}
use Rattle.lam_io.specs.declared.byte_text.FileEntry.{FileEntry}
use Rattle.lam_io.specs.Faults.{counted}

-- The files, the numbers of the calls that fail, and how many calls and faults there were.
pub record MemoryFiles : Type 0 where
  pub files : List FileEntry
  pub failing : List ℕ
  pub calls : ℕ
  pub faults : ℕ

-- the number of the next call is one of those that fail
abbrev pub IsListed : MemoryFiles → Type 0
IsListed files = Contains files.failing (counted files.calls)
