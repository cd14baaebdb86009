-- Each verdict on the term that a variable would get.
use Rattle.std.proofs.Common.{◌≡◌, refl, [], ◌∷◌}
use Rattle.ref_terms.specs.terms.Term.{Lam}
use Rattle.ref_terms.specs.terms.Ready.{ready}
use Rattle.ref_terms.specs.unification.Rules.{step}
use Rattle.ref_terms.proofs.examples.Setting.{◌·◌, X, Y, Z, F, fresh, fresh_too, f, a, b, x, y, i0, i1, binds, unified, solved, clash, knot, redex_fault, scope_fault}

-- X = f (z\ f z z): names that the term binds don't offend
own_name : unified X (f · Lam (f · i0 · i0)) ≡ solved 10 (binds 0 (f · Lam (f · i0 · i0)) ∷ [])
unfolding step ready
own_name = refl

-- X x = F x a: a name of the spine doesn't offend among arguments that are no pattern
spine_name : unified (X · x) (F · x · a) ≡ solved 10 (binds 0 (Lam (F · i0 · a)) ∷ [])
unfolding step ready
spine_name = refl

-- X = f ((z\ z) Y): a stuck redex
redex_below : unified X (f · (Lam i0 · Y)) ≡ redex_fault
unfolding step ready
redex_below = refl

-- the first place decides: X = f x ((z\ z) Y), X = f ((z\ z) Y) x
name_first : unified X (f · x · (Lam i0 · Y)) ≡ clash
unfolding step ready
name_first = refl

redex_first : unified X (f · (Lam i0 · Y) · x) ≡ redex_fault
unfolding step ready
redex_first = refl

-- a head comes before its arguments: X = x ((z\ z) Y)
head_first : unified X (x · (Lam i0 · Y)) ≡ clash
unfolding step ready
head_first = refl

-- X itself below a constant, below a name, and under an abstraction
itself_below_constant : unified (X · x) (f · (X · x)) ≡ clash
unfolding step ready
itself_below_constant = refl

itself_below_name : unified (X · x · y) (x · (X · y)) ≡ knot
unfolding step ready
itself_below_name = refl

itself_under : unified X (f · Lam (f · i0 · X)) ≡ clash
unfolding step ready
itself_under = refl

-- a foreign name: X x = y, X x = f (z\ f z y)
foreign_alone : unified (X · x) y ≡ clash
unfolding step ready
foreign_alone = refl

foreign_under : unified (X · x) (f · Lam (f · i0 · y)) ≡ clash
unfolding step ready
foreign_under = refl

-- a foreign name, or X itself, among arguments that are no pattern: X = F a x, X = f (F a X)
foreign_loose : unified X (F · a · x) ≡ scope_fault
unfolding step ready
foreign_loose = refl

itself_loose : unified X (f · (F · a · X)) ≡ scope_fault
unfolding step ready
itself_loose = refl

-- there no position is dropped: X = F a (Y x)
drop_loose : unified X (F · a · (Y · x)) ≡ scope_fault
unfolding step ready
drop_loose = refl

-- X x = f (Y y x) drops the first position of Y
dropped_first : unified (X · x) (f · (Y · y · x)) ≡ solved 11 (binds 0 (Lam (f · (fresh · i0))) ∷ binds 1 (Lam fresh) ∷ [])
unfolding step ready
dropped_first = refl

-- X = f (Y x y) drops both positions, one after the other
dropped_twice : unified X (f · (Y · x · y)) ≡ solved 12 (binds 0 (f · fresh_too) ∷ binds 10 (Lam fresh_too) ∷ binds 1 (Lam fresh) ∷ [])
unfolding step ready
dropped_twice = refl

-- X x = f (Y y) (Z x y): two variables lose a position
dropped_of_two : unified (X · x) (f · (Y · y) · (Z · x · y)) ≡ solved 12 (binds 0 (Lam (f · fresh · (fresh_too · i0))) ∷ binds 2 (Lam (Lam (fresh_too · i1))) ∷ binds 1 (Lam fresh) ∷ [])
unfolding step ready
dropped_of_two = refl

-- X = f (z\ Y z x) drops the second position of Y, and the argument is contracted by η
dropped_under : unified X (f · Lam (Y · i0 · x)) ≡ solved 11 (binds 0 (f · fresh) ∷ binds 1 (Lam (Lam (fresh · i1))) ∷ [])
unfolding step ready
dropped_under = refl

-- a dropped position comes before a clash further right: X = f (Y x) x
dropped_first_then_clash : unified X (f · (Y · x) · x) ≡ clash
unfolding step ready
dropped_first_then_clash = refl
