-- The rules of unification, in their order.
use Rattle.std.proofs.Common.{◌≡◌, refl, [], ◌∷◌}
use Rattle.std.specs.Prelude.{pos}
use Rattle.ref_terms.specs.terms.Term.{Lam, At, Int, Str}
use Rattle.ref_terms.specs.terms.Ready.{ready}
use Rattle.ref_terms.specs.unification.Rules.{step}
use Rattle.ref_terms.proofs.examples.Setting.{◌·◌, X, Y, F, fresh, f, a, b, x, y, z, i0, i1, i2, equal, binds, solve, unified, solved, clash, redex_fault, pattern_fault}

-- a stuck head on either side comes before everything else
stuck_left : unified (Lam i0 · Y) a ≡ redex_fault
unfolding step ready
stuck_left = refl

stuck_right : unified X (Lam i0 · Y) ≡ redex_fault
unfolding step ready
stuck_right = refl

stuck_before_abstraction : unified (Lam (f · i0 · i0)) (Lam i0 · Y · x) ≡ redex_fault
unfolding step ready
stuck_before_abstraction = refl

-- z\ f z z = z\ f z z, and z\ f z z = z\ f z x
abstractions : unified (Lam (f · i0 · i0)) (Lam (f · i0 · i0)) ≡ solved 10 []
unfolding step ready
abstractions = refl

abstractions_differ : unified (Lam (f · i0 · i0)) (Lam (f · i0 · x)) ≡ clash
unfolding step ready
abstractions_differ = refl

-- z\ f (Y z) = f: by η the right side is applied too
abstraction_left : unified (Lam (f · (Y · i0))) f ≡ solved 10 (binds 1 (Lam i0) ∷ [])
unfolding step ready
abstraction_left = refl

abstraction_right : unified X (Lam (f · i0 · i0)) ≡ solved 10 (binds 0 (Lam (f · i0 · i0)) ∷ [])
unfolding step ready
abstraction_right = refl

-- rigid heads, and their numbers of arguments
rigid_arguments : unified (f · X · Y) (f · a · b) ≡ solved 10 (binds 1 b ∷ binds 0 a ∷ [])
unfolding step ready
rigid_arguments = refl

rigid_heads_differ : unified (f · a) (a · a) ≡ clash
unfolding step ready
rigid_heads_differ = refl

rigid_numbers_differ : unified (f · a) (f · a · b) ≡ clash
unfolding step ready
rigid_numbers_differ = refl

names_differ : unified (x · a) (y · a) ≡ clash
unfolding step ready
names_differ = refl

integers : unified (At (Int (pos 3))) (At (Int (pos 3))) ≡ solved 10 []
unfolding step ready
integers = refl

integers_differ : unified (At (Int (pos 3))) (At (Int (pos 4))) ≡ clash
unfolding step ready
integers_differ = refl

strings_differ : unified (At (Str 0)) (At (Str 1)) ≡ clash
unfolding step ready
strings_differ = refl

-- the arguments come before the other equations
arguments_first : solve (equal 0 (f · a) (f · b) ∷ equal 0 (Lam i0 · Y) a ∷ []) ≡ clash
unfolding step ready
arguments_first = refl

-- a binding is applied to the equations that are left: X = a, f X = f b
applied_at_once : solve (equal 0 X a ∷ equal 0 (f · X) (f · b) ∷ []) ≡ clash
unfolding step ready
applied_at_once = refl

-- X x y = X x y keeps both positions, X x y z = X z y x the second one
all_agree : unified (X · x · y) (X · x · y) ≡ solved 11 (binds 0 fresh ∷ [])
unfolding step ready
all_agree = refl

one_agrees : unified (X · x · y · z) (X · z · y · x) ≡ solved 11 (binds 0 (Lam (Lam (Lam (fresh · i1)))) ∷ [])
unfolding step ready
one_agrees = refl

-- X x = X x y
lengths_differ : unified (X · x) (X · x · y) ≡ clash
unfolding step ready
lengths_differ = refl

-- X x y = Y y z share y, and X x = Y y nothing
one_shared : unified (X · x · y) (Y · y · z) ≡ solved 11 (binds 1 (Lam (Lam (fresh · i1))) ∷ binds 0 (Lam fresh) ∷ [])
unfolding step ready
one_shared = refl

none_shared : unified (X · x) (Y · y) ≡ solved 11 (binds 1 (Lam fresh) ∷ binds 0 (Lam fresh) ∷ [])
unfolding step ready
none_shared = refl

-- X x y z = Y z y x: the left order
left_order : unified (X · x · y · z) (Y · z · y · x) ≡ solved 11 (binds 1 (Lam (Lam (Lam (fresh · i0 · i1 · i2)))) ∷ binds 0 fresh ∷ [])
unfolding step ready
left_order = refl

-- a variable on either side of another term
bound_left : unified (X · x · y) (f · y) ≡ solved 10 (binds 0 (Lam f) ∷ [])
unfolding step ready
bound_left = refl

bound_right : unified (f · y) (X · x · y) ≡ solved 10 (binds 0 (Lam f) ∷ [])
unfolding step ready
bound_right = refl

-- where one spine alone is a pattern, that variable is bound, on either side
pattern_left : unified (X · x) (F · a) ≡ solved 10 (binds 0 (Lam (F · a)) ∷ [])
unfolding step ready
pattern_left = refl

pattern_right : unified (F · a) (X · x) ≡ solved 10 (binds 0 (Lam (F · a)) ∷ [])
unfolding step ready
pattern_right = refl

-- everything else: X = X a, X x x = a, F a = Y b
itself_applied : unified X (X · a) ≡ pattern_fault
unfolding step ready
itself_applied = refl

itself_applied_left : unified (X · a) X ≡ pattern_fault
unfolding step ready
itself_applied_left = refl

name_twice : unified (X · x · x) a ≡ pattern_fault
unfolding step ready
name_twice = refl

no_pattern : unified (F · a) (Y · b) ≡ pattern_fault
unfolding step ready
no_pattern = refl
