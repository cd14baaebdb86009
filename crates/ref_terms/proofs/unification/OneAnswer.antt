-- A run has one answer.
use Rattle.std.proofs.Common.{◌≡◌, ℕ, zero, suc, ◌+◌, Option, Some, None, arith, suc-add}
use Rattle.ref_terms.specs.unification.Problem.{Problem, Answer, Step, Goes, Ends}
use Rattle.ref_terms.specs.unification.Rules.{step}
use Rattle.ref_terms.specs.unification.Run.{after, run, Unifies}

after-more : (f g : Problem → Option Answer) (a : Answer) → ((q : Problem) → f q ≡ Some a → g q ≡ Some a) → (s : Step) → after f s ≡ Some a → after g s ≡ Some a
after-more f g a h (Ends b) e = e
after-more f g a h (Goes q) e = h q e

-- more steps change nothing
pub run-more : (m n k : ℕ) (p : Problem) (a : Answer) → run m n p ≡ Some a → run m (n + k) p ≡ Some a
run-more m zero k p a e = absurd (let q : None ≡ Some a = e in cc)
run-more m (suc n) k p a e = rw suc-add (after-more (run m n) (run m (n + k)) a (λ q d. run-more m n k q a d) (step m p) e)

pub one_answer : (m : ℕ) (p : Problem) (a b : Answer) → Unifies m p a → Unifies m p b → a ≡ b
one_answer m p a b x y =
    let left = run-more m x.steps y.steps p a x.ends in
    let right = run-more m y.steps x.steps p b y.ends in
    let swap : y.steps + x.steps ≡ x.steps + y.steps = omega arith in
    let both = rw swap at right in
    cc
