-- The answer to which the rules come.
use Rattle.std.specs.Prelude.{◌≡◌, ℕ, zero, suc, Option, Some, None}
use Rattle.ref_terms.specs.unification.Problem.{Problem, Answer, Step, Goes, Ends}
use Rattle.ref_terms.specs.unification.Rules.{step}

-- the answer after a step
abbrev pub after : (Problem → Option Answer) → Step → Option Answer
after go (Ends a) = Some a
after go (Goes p) = go p

-- the answer of at most n steps, where they end in one
abbrev pub run : (m n : ℕ) → Problem → Option Answer
run m zero p = None
run m (suc n) p = after (run m n) (step m p)

-- the steps end in this answer
pub record Unifies (m : ℕ) (p : Problem) (a : Answer) : Type 0 where
  pub steps : ℕ
  pub ends : run m steps p ≡ Some a
