-- Renaming and replacing bound indices; nothing is contracted here.
use Rattle.std.specs.Prelude.{ℕ, zero, suc}
use Rattle.ref_terms.specs.terms.Term.{Head, Con, Int, Str, Name, Bound, Var, Term, Lam, At, App}

-- a renaming of indices, under one more abstraction
abbrev pub up : (ℕ → ℕ) → ℕ → ℕ
up f zero = zero
up f (suc n) = suc (f n)

-- a head with its index renamed
abbrev pub ren_head : (ℕ → ℕ) → Head → Head
ren_head f (Con c) = Con c
ren_head f (Int n) = Int n
ren_head f (Str s) = Str s
ren_head f (Name n) = Name n
ren_head f (Bound i) = Bound (f i)
ren_head f (Var v) = Var v

-- a term with its free indices renamed
abbrev pub ren : (ℕ → ℕ) → Term → Term
ren f (Lam b) = Lam (ren (up f) b)
ren f (At h) = At (ren_head f h)
ren f (App g a) = App (ren f g) (ren f a)

-- the index one abstraction further out
abbrev pub next : ℕ → ℕ
next n = suc n

-- the term under one more abstraction
abbrev pub shift : Term → Term
shift t = ren next t

-- terms for indices, under one more abstraction
abbrev pub under : (ℕ → Term) → ℕ → Term
under s zero = At (Bound zero)
under s (suc n) = shift (s n)

-- the term for a head
abbrev pub sub_head : (ℕ → Term) → Head → Term
sub_head s (Con c) = At (Con c)
sub_head s (Int n) = At (Int n)
sub_head s (Str c) = At (Str c)
sub_head s (Name n) = At (Name n)
sub_head s (Bound i) = s i
sub_head s (Var v) = At (Var v)

-- terms in place of the free indices
abbrev pub sub : (ℕ → Term) → Term → Term
sub s (Lam b) = Lam (sub (under s) b)
sub s (At h) = sub_head s h
sub s (App g a) = App (sub s g) (sub s a)

-- the term for index 0, where the other indices are one lower
abbrev pub first : Term → ℕ → Term
first s zero = s
first s (suc n) = At (Bound n)
