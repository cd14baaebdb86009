-- Application, and replacing heads.
use Rattle.std.specs.Prelude.{zero, suc, cond}
use Rattle.ref_terms.specs.terms.Term.{Head, Con, Int, Str, Name, Bound, Var, Term, Lam, At, App}
use Rattle.ref_terms.specs.terms.Index.{shift, sub, first}
use Rattle.ref_terms.specs.terms.Eta.{lam}
use Rattle.ref_terms.specs.terms.Ready.{ready}

-- an abstraction is opened with a ready argument and gets stuck before another; each other term gets one more argument
-- (opening contracts nothing where the argument is ready, so `sub` will do here: it is `open_with` of it)
abbrev pub apply : Term → Term → Term
apply (Lam b) s = cond (ready s) (sub (first s) b) (App (Lam b) s)
apply (At h) s = App (At h) s
apply (App f a) s = App (App f a) s

-- the terms for heads, under one more abstraction
abbrev pub below : (Head → Term) → Head → Term
below r (Bound zero) = At (Bound zero)
below r (Bound (suc n)) = shift (r (Bound n))
below r (Con c) = shift (r (Con c))
below r (Int n) = shift (r (Int n))
below r (Str s) = shift (r (Str s))
below r (Name n) = shift (r (Name n))
below r (Var v) = shift (r (Var v))

-- a term in place of each head, rebuilt by application and abstraction
abbrev pub fill : (Head → Term) → Term → Term
fill r (Lam b) = lam (fill (below r) b)
fill r (At h) = r h
fill r (App f a) = apply (fill r f) (fill r a)

-- the term for index 0, where the other indices are one lower
abbrev pub opened : Term → Head → Term
opened s (Bound zero) = s
opened s (Bound (suc n)) = At (Bound n)
opened s h = At h

-- the body with the term in place of index 0
abbrev pub open_with : Term → Term → Term
open_with b s = fill (opened s) b
