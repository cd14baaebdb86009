-- Clashes that have no unifier, and a knot that has one.
use Rattle.std.proofs.Common.{◌≡◌, ℕ, false, true, refl, [], ◌∷◌}
use Rattle.ref_terms.specs.terms.Term.{Term, Lam}
use Rattle.ref_terms.specs.terms.Ready.{ready}
use Rattle.ref_terms.specs.unification.Problem.{Problem, Clashed, Ends}
use Rattle.ref_terms.specs.unification.Rules.{step}
use Rattle.ref_terms.specs.unification.Unifier.{IsSubstitution, IsUnifier, HasNoUnifier}
use Rattle.ref_terms.proofs.unification.RealClash.{real-clash}
use Rattle.ref_terms.proofs.examples.Setting.{◌·◌, X, f, a, b, x, y, i0, equal}

-- one equation under the names x and y
abbrev one : Term → Term → Problem
one s t = record { next_var = 10; equations = equal 2 s t ∷ []; bindings = [] }

-- f a = f, and f a = a b
numbers_differ : HasNoUnifier 0 (one (f · a) f).equations
unfolding step ready
numbers_differ = real-clash 0 (one (f · a) f) (λ i e. absurd (cc), λ i e. absurd (cc)) refl

heads_differ : HasNoUnifier 0 (one (f · a) (a · b)).equations
unfolding step ready
heads_differ = real-clash 0 (one (f · a) (a · b)) (λ i e. absurd (cc), λ i e. absurd (cc)) refl

-- X x = f y
foreign_name : HasNoUnifier 0 (one (X · x) (f · y)).equations
unfolding step ready
foreign_name = real-clash 0 (one (X · x) (f · y)) (λ i e. absurd (cc), λ i e. absurd (cc)) refl

-- X x = X x y
lengths_differ : HasNoUnifier 0 (one (X · x) (X · x · y)).equations
unfolding step ready
lengths_differ = real-clash 0 (one (X · x) (X · x · y)) (λ i e. absurd (cc), λ i e. absurd (cc)) refl

-- X x y = f (x (X y)): X is below a constant
below_constant : HasNoUnifier 0 (one (X · x · y) (f · (x · (X · y)))).equations
unfolding step ready
below_constant = real-clash 0 (one (X · x · y) (f · (x · (X · y)))) (λ i e. absurd (cc), λ i e. absurd (cc)) refl

-- X x y = x (X y): X is below a name alone, and the clash is a knot
abbrev knotted : Problem
knotted = one (X · x · y) (x · (X · y))

knot_clashes : step 0 knotted ≡ Ends (Clashed true)
unfolding step ready
knot_clashes = refl

-- but X = (a\ a) makes both sides equal
abbrev same_back : ℕ → Term
same_back v = Lam i0

same_back_is_good : IsSubstitution same_back
same_back_is_good = record { built = λ v. (tt, refl); closed = λ v g. refl; nameless = λ v n. refl }

knot_has_unifier : IsUnifier same_back knotted.equations
unfolding ready
knot_has_unifier = (refl, tt)

-- below a free bound index such a clash is called no knot, and may have a unifier too: so the law asks for heads that aren't
abbrev open_knot : Problem
open_knot = one (X · i0 · y) (i0 · (X · y))

open_knot_clashes : step 0 open_knot ≡ Ends (Clashed false)
unfolding step ready
open_knot_clashes = refl

open_knot_has_unifier : IsUnifier same_back open_knot.equations
unfolding ready
open_knot_has_unifier = (refl, tt)
