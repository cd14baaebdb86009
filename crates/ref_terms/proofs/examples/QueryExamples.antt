-- Equations of whole queries. A variable under the names of `pi` stands applied to them.
use Rattle.std.proofs.Common.{◌≡◌, refl, [], ◌∷◌}
use Rattle.ref_terms.specs.terms.Term.{Lam}
use Rattle.ref_terms.specs.terms.Eta.{lam}
use Rattle.ref_terms.specs.terms.Ready.{ready}
use Rattle.ref_terms.specs.unification.Rules.{step}
use Rattle.ref_terms.proofs.examples.Setting.{◌·◌, X, Y, Z, F, fresh, f, a, b, x, y, i0, i1, equal, binds, matched, solve, solved, clash, knot, redex_fault, pattern_fault, scope_fault}

-- X = f X
in_itself : solve (equal 0 X (f · X) ∷ []) ≡ clash
unfolding step ready
in_itself = refl

-- pi x\ pi y\ X x y = Y y x
swapped : solve (equal 2 (X · x · y) (Y · y · x) ∷ []) ≡ solved 11 (binds 1 (Lam (Lam (fresh · i0 · i1))) ∷ binds 0 fresh ∷ [])
unfolding step ready
swapped = refl

-- pi x\ pi y\ X x y = X y x
nothing_kept : solve (equal 2 (X · x · y) (X · y · x) ∷ []) ≡ solved 11 (binds 0 (Lam (Lam fresh)) ∷ [])
unfolding step ready
nothing_kept = refl

-- (pi x\ sigma Y\ X x = f Y), (pi y\ X y = f Z)
known_later : solve (equal 1 (X · x) (f · (Y · x)) ∷ equal 1 (X · x) (f · Z) ∷ []) ≡ solved 11 (binds 2 fresh ∷ binds 1 (Lam fresh) ∷ binds 0 (Lam (f · (Y · i0))) ∷ [])
unfolding step ready
known_later = refl

-- pi x\ X = x
name_outside : solve (equal 1 X x ∷ []) ≡ clash
unfolding step ready
name_outside = refl

-- X = (z\ z), (X b) = a ; X = (z\ z), (X Y) = a
reduced_by_value : solve (equal 0 X (Lam i0) ∷ equal 0 (X · b) a ∷ []) ≡ clash
unfolding step ready
reduced_by_value = refl

stuck_by_value : solve (equal 0 X (Lam i0) ∷ equal 0 (X · Y) a ∷ []) ≡ redex_fault
unfolding step ready
stuck_by_value = refl

-- X = (z\ f z z), Y = b, (X Y) = f b b: a stuck argument becomes a constant
reduced_later : solve (equal 0 X (Lam (f · i0 · i0)) ∷ equal 0 Y b ∷ equal 0 (X · Y) (f · b · b) ∷ []) ≡ solved 10 (binds 1 b ∷ binds 0 (Lam (f · i0 · i0)) ∷ [])
unfolding step ready
reduced_later = refl

-- X = a ; F a = b
constant : solve (equal 0 X a ∷ []) ≡ solved 10 (binds 0 a ∷ [])
unfolding step ready
constant = refl

no_pattern : solve (equal 0 (F · a) b ∷ []) ≡ pattern_fault
unfolding step ready
no_pattern = refl

-- pi x\ X = f (Y x)
position_lost : solve (equal 1 X (f · (Y · x)) ∷ []) ≡ solved 11 (binds 0 (f · fresh) ∷ binds 1 (Lam fresh) ∷ [])
unfolding step ready
position_lost = refl

-- pi x\ X = F a x
out_of_scope : solve (equal 1 X (F · a · x) ∷ []) ≡ scope_fault
unfolding step ready
out_of_scope = refl

-- X = (z\ f z)
contracted : solve (equal 0 X (lam (f · i0)) ∷ []) ≡ solved 10 (binds 0 f ∷ [])
unfolding step ready
contracted = refl

-- pi x\ pi y\ X x = f (Y x y)
second_lost : solve (equal 2 (X · x) (f · (Y · x · y)) ∷ []) ≡ solved 11 (binds 0 (Lam (f · (fresh · i0))) ∷ binds 1 (Lam (Lam (fresh · i1))) ∷ [])
unfolding step ready
second_lost = refl

-- pi x\ pi y\ X x = y
other_name : solve (equal 2 (X · x) y ∷ []) ≡ clash
unfolding step ready
other_name = refl

-- pi x\ pi y\ X x y = x (X y)
below_a_name : solve (equal 2 (X · x · y) (x · (X · y)) ∷ []) ≡ knot
unfolding step ready
below_a_name = refl

-- the clause's argument f A against the caller's X, which is older and frozen
frozen_caller : matched 1 (equal 0 (f · Y) X ∷ []) ≡ clash
unfolding step ready
frozen_caller = refl
