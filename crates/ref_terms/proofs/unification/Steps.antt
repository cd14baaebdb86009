-- Unification as a function gives the answer of the run, and its steps fall.
use Rattle.std.proofs.Common.{◌≡◌, ℕ, zero, suc, refl, sym, ap, ◌∙◌, Some, None}
use Rattle.ref_terms.specs.unification.Problem.{Problem, Answer, Step, Goes, Ends}
use Rattle.ref_terms.specs.unification.Rules.{step}
use Rattle.ref_terms.specs.unification.Run.{after, run, Unifies}
use Rattle.ref_terms.specs.unification.Unification.{unify, steps_left, count_steps, steps_of}
use Rattle.ref_terms.specs.ending.Ending.{unification-ends}
use Rattle.ref_terms.proofs.unification.OneAnswer.{one_answer}

-- the run ends in the answer of the function
pub unify-reached : (m : ℕ) (p : Problem) → Unifies m p (unify m p)
unfolding unify
unify-reached m p = (unification-ends m p).1

pub unify-only : (m : ℕ) (p : Problem) (a : Answer) → Unifies m p a → unify m p ≡ a
unify-only m p a u = one_answer m p (unify m p) a (unify-reached m p) u

pub unify-goes : (m : ℕ) (p q : Problem) → step m p ≡ Goes q → unify m p ≡ unify m q
unify-goes m p q e =
    let u : Unifies m q (unify m q) = unify-reached m q in
    unify-only m p (unify m q) (record { steps = suc u.steps; ends = ap (after (run m u.steps)) e ∙ u.ends })

pub unify-ends : (m : ℕ) (p : Problem) (a : Answer) → step m p ≡ Ends a → unify m p ≡ a
unify-ends m p a e = unify-only m p a (record { steps = 1; ends = ap (after (run m 0)) e })

-- any count that is enough counts the same
count-enough : (m k l : ℕ) (p : Problem) (a b : Answer) → run m k p ≡ Some a → run m l p ≡ Some b → count_steps m k p ≡ count_steps m l p
count-enough m zero l p a b e d = absurd (let z : None ≡ Some a = e in cc)
count-enough m (suc k) zero p a b e d = absurd (let z : None ≡ Some b = d in cc)
count-enough m (suc k) (suc l) p a b e d = ap suc (go (step m p) (λ q x y. count-enough m k l q a b x y) e d)
  where
    go : (s : Step) → ((q : Problem) → run m k q ≡ Some a → run m l q ≡ Some b → count_steps m k q ≡ count_steps m l q) → after (run m k) s ≡ Some a → after (run m l) s ≡ Some b → steps_left (count_steps m k) s ≡ steps_left (count_steps m l) s
    go (Ends c) h e d = refl
    go (Goes q) h e d = h q e d

pub steps-fall : (m : ℕ) (p q : Problem) → step m p ≡ Goes q → steps_of m p ≡ suc (steps_of m q)
unfolding steps_of
steps-fall m p q e = go (unification-ends m p).1.steps (unification-ends m p).1.ends
  where
    go : (k : ℕ) → run m k p ≡ Some (unification-ends m p).0 → count_steps m k p ≡ suc (count_steps m (unification-ends m q).1.steps q)
    go zero d = absurd (let z : None ≡ Some (unification-ends m p).0 = d in cc)
    go (suc k) d =
        let r : run m k q ≡ Some (unification-ends m p).0 = sym (ap (after (run m k)) e) ∙ d in
        ap (λ s. suc (steps_left (count_steps m k) s)) e ∙ ap suc (count-enough m k (unification-ends m q).1.steps q (unification-ends m p).0 (unification-ends m q).0 r (unification-ends m q).1.ends)

pub steps-last : (m : ℕ) (p : Problem) (a : Answer) → step m p ≡ Ends a → steps_of m p ≡ 1
unfolding steps_of
steps-last m p a e = go (unification-ends m p).1.steps (unification-ends m p).1.ends
  where
    go : (k : ℕ) → run m k p ≡ Some (unification-ends m p).0 → count_steps m k p ≡ 1
    go zero d = absurd (let z : None ≡ Some (unification-ends m p).0 = d in cc)
    go (suc k) d = ap (λ s. suc (steps_left (count_steps m k) s)) e
