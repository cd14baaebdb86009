-- A sink that tells nothing owes nothing on its bytes.
use Rattle.std.proofs.Common.{ℕ, List, None, Ok, Err}
use Rattle.std.specs.declared.result.Result.{Result}
use Rattle.lam_io.specs.Writes.{Writes}

pub writes-untold : {T E : Type 0} (piece : List ℕ) (result : Result T E) →
    Writes None None piece result
writes-untold piece (Ok _) = tt
writes-untold piece (Err _) = tt
