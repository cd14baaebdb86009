-- The first heads with a variable, as heads come one by one.
use Rattle.std.specs.Prelude.{ℕ, Bool, Option, Some, None, if◌then◌else◌}

-- the first head so far, with one more head, which has the variable or not
abbrev pub unless_seen : Option ℕ → (has : Bool) → (head : ℕ) → Option ℕ
unless_seen (Some i) has head = Some i
unless_seen None has head = if has then Some head else None
