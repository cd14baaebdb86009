-- The terms that application and contracted abstraction build.
use Rattle.std.specs.Prelude.{◌≡◌, false, None}
use Rattle.ref_terms.specs.terms.Term.{Term, Lam, At, App}
use Rattle.ref_terms.specs.terms.Eta.{eta}
use Rattle.ref_terms.specs.terms.Ready.{ready}

-- an abstraction stands before an argument only where that isn't ready
abbrev pub IsStuck : Term → Term → Type 0
IsStuck (Lam b) a = ready a ≡ false
IsStuck (At h) a = Unit {0}
IsStuck (App f b) a = Unit {0}

-- so throughout, and no abstraction can be contracted by η
abbrev pub IsBuilt : Term → Type 0
IsBuilt (Lam b) = IsBuilt b × (eta b ≡ None)
IsBuilt (At h) = Unit {0}
IsBuilt (App f a) = IsBuilt f × IsBuilt a × IsStuck f a
