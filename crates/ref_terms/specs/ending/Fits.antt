-- Terms before so many arguments.
use Rattle.std.proofs.Common.{◌≡◌, ℕ, zero, suc, true}
use Rattle.ref_terms.specs.terms.Term.{Head, Con, Var, Term, Lam, At, App}
use Rattle.ref_terms.specs.terms.Ready.{ready}
use Rattle.ref_terms.specs.laws.ReadyLaws.{IsRigid}
use Rattle.ref_terms.specs.lemmas.ReadyFacts.{ready-rigid}

-- P v j: the variable v may stand before j arguments
abbrev pub FitsHead : (ℕ → ℕ → Type 0) → ℕ → Head → Type 0
FitsHead P j (Var v) = P v j
FitsHead P j (Con c) = Unit {0}
FitsHead P j _ = Unit {0}

-- the arguments that are left after an abstraction took one
abbrev pub before : ℕ → ℕ
before zero = zero
before (suc n) = n

-- the term fits before j more arguments, also after they have reached its body
abbrev pub Fits : (ℕ → ℕ → Type 0) → ℕ → Term → Type 0
Fits P j (Lam b) = Fits P (before j) b
Fits P j (At h) = FitsHead P j h
Fits P j (App f a) = Fits P (suc j) f × Fits P 0 a

-- where no variable is at the head the number of arguments makes no difference
pub fits-rigid : (P : ℕ → ℕ → Type 0) (t : Term) → IsRigid t → (i j : ℕ) → Fits P i t → Fits P j t
fits-rigid P (Lam b) r i j w = absurd r
fits-rigid P (At (Var v)) r i j w = absurd r
fits-rigid P (At (Con c)) r i j w = tt
fits-rigid P (At _) r i j w = tt
fits-rigid P (App f a) r i j w = (fits-rigid P f r (suc i) (suc j) w.0, w.1)

pub fits-ready : (P : ℕ → ℕ → Type 0) (t : Term) → ready t ≡ true → (i j : ℕ) → Fits P i t → Fits P j t
fits-ready P t h = fits-rigid P t (ready-rigid t h)
