-- The law on most general unifiers at X x y = Y y x: each unifier is one value, with its two arguments swapped for the other variable.
use Rattle.std.proofs.Common.{◌≡◌, ℕ, ◌<◌, Bool, true, false, nat_eq, refl, [], ◌∷◌, arith, eqb-true}
use Rattle.ref_terms.specs.terms.Term.{Term, Lam}
use Rattle.ref_terms.specs.terms.Ready.{ready}
use Rattle.ref_terms.specs.terms.Apply.{apply}
use Rattle.ref_terms.specs.terms.Instance.{inst_all}
use Rattle.ref_terms.specs.unification.Problem.{Problem, Solved}
use Rattle.ref_terms.specs.unification.Rules.{step}
use Rattle.ref_terms.specs.unification.Unification.{unify}
use Rattle.ref_terms.specs.unification.Unifier.{IsSubstitution}
use Rattle.ref_terms.specs.unification.Proper.{AreProper}
use Rattle.ref_terms.specs.unification.MostGeneral.{CoverUnifiers}
use Rattle.ref_terms.specs.lemmas.NameLemmas.{or_both}
use Rattle.ref_terms.proofs.unification.Steps.{unify-only}
use Rattle.ref_terms.proofs.unification.GeneralRun.{most-general}
use Rattle.ref_terms.proofs.examples.Setting.{◌·◌, X, Y, x, y, fresh, i0, i1, equal, binds}

apart : (a b : ℕ) → a < b → nat_eq b a ≡ false
apart a b l = go (nat_eq b a) refl
  where
    go : (r : Bool) → nat_eq b a ≡ r → r ≡ false
    go true e = let same : b ≡ a = eqb-true _ _ e in absurd (omega arith)
    go false e = refl

-- the problem and its answer
abbrev swapped : Problem
swapped = record { next_var = 10; equations = equal 2 (X · x · y) (Y · y · x) ∷ []; bindings = [] }

abbrev swapped_solved : Problem
swapped_solved = record { next_var = 11; equations = []; bindings = binds 1 (Lam (Lam (fresh · i0 · i1))) ∷ binds 0 fresh ∷ [] }

is_proper : AreProper 10 swapped.equations
is_proper = (
  record { closed = λ g. refl; scoped = λ k l. or_both _ _ (or_both _ _ refl (apart 0 k (omega arith))) (apart 1 k (omega arith)); known = λ v l. or_both _ _ (or_both _ _ (apart 0 v (omega arith)) refl) refl },
  record { closed = λ g. refl; scoped = λ k l. or_both _ _ (or_both _ _ refl (apart 1 k (omega arith))) (apart 0 k (omega arith)); known = λ v l. or_both _ _ (or_both _ _ (apart 1 v (omega arith)) refl) refl },
  tt,
)

is_solved : unify 0 swapped ≡ Solved swapped_solved
unfolding step ready
is_solved = unify-only 0 swapped (Solved swapped_solved) (record { steps = 9; ends = refl })

each_unifier : (u : ℕ → Term) → IsSubstitution u → apply (apply (u 0) x) y ≡ apply (apply (u 1) y) x
    → (s : ℕ → Term) × (u 0 ≡ s 10) × (u 1 ≡ inst_all s (Lam (Lam (fresh · i0 · i1))))
each_unifier u g e =
    let cover : CoverUnifiers 0 10 swapped.equations swapped_solved.bindings = (most-general 0 swapped swapped_solved (omega arith) is_proper refl is_solved).1 in
    let c = cover u (record { substitution = g; frozen = λ v l. absurd (omega arith) }) (e, tt) in
    (c.0, c.2 0 (omega arith), c.2 1 (omega arith))
