-- Abstraction, contracted by η.
use Rattle.std.specs.Prelude.{ℕ, zero, suc, Option, Some, None, option_map}
use Rattle.ref_terms.specs.terms.Term.{Head, Con, Int, Str, Name, Bound, Var, Term, Lam, At, App}
use Rattle.ref_terms.specs.terms.Index.{next}

-- a renaming that has no image for some indices, under one more abstraction
abbrev pub up_partial : (ℕ → Option ℕ) → ℕ → Option ℕ
up_partial p zero = Some zero
up_partial p (suc n) = option_map next (p n)

-- an application, where both parts are there
abbrev pub both : Option Term → Option Term → Option Term
both (Some g) (Some a) = Some (App g a)
both (Some g) None = None
both None a = None

-- a head so renamed
abbrev pub partial_head : (ℕ → Option ℕ) → Head → Option Term
partial_head p (Con c) = Some (At (Con c))
partial_head p (Int n) = Some (At (Int n))
partial_head p (Str s) = Some (At (Str s))
partial_head p (Name n) = Some (At (Name n))
partial_head p (Bound i) = option_map (λ j. At (Bound j)) (p i)
partial_head p (Var v) = Some (At (Var v))

-- a term so renamed, where each of its free indices has an image
abbrev pub partial : (ℕ → Option ℕ) → Term → Option Term
partial p (Lam b) = option_map Lam (partial (up_partial p) b)
partial p (At h) = partial_head p h
partial p (App g a) = both (partial p g) (partial p a)

-- the index one abstraction further in; index 0 has none
abbrev pub previous : ℕ → Option ℕ
previous zero = None
previous (suc n) = Some n

-- the term outside the innermost abstraction, where index 0 doesn't occur in it
abbrev pub lower : Term → Option Term
lower t = partial previous t

-- what is given, where the argument is index 0
abbrev pub on_index : Term → Option Term → Option Term
on_index (At (Bound zero)) o = o
on_index _ o = None

-- the term t where the body is t applied to index 0, which doesn't occur in t
abbrev pub eta : Term → Option Term
eta (App f a) = on_index a (lower f)
eta _ = None

-- the contracted term, where there is one
abbrev pub lam_of : Option Term → Term → Term
lam_of None b = Lam b
lam_of (Some t) b = t

-- the abstraction over index 0
abbrev pub lam : Term → Term
lam b = lam_of (eta b) b
