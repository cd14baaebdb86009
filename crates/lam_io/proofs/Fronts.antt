-- A front of a piece that was put behind what was told.
use Rattle.std.proofs.Common.{◌≡◌, ℕ, List, ◌++◌, take, drop, Some, ap, take-append-drop}
use Rattle.lam_io.specs.Writes.{Appended, IsFront}

pub front-appended : (old now piece : List ℕ) (kept : ℕ) →
    now ≡ old ++ take kept piece → Appended (Some old) (Some now) (IsFront piece)
front-appended old now piece kept is =
    (take kept piece, ap Some is, (drop kept piece, take-append-drop kept piece))
