-- Unification as a function, and the number of steps to its answer.
use Rattle.std.specs.Prelude.{ℕ, zero, suc}
use Rattle.ref_terms.specs.unification.Problem.{Problem, Answer, Step, Goes, Ends}
use Rattle.ref_terms.specs.unification.Rules.{step}
use Rattle.ref_terms.specs.ending.Ending.{unification-ends}

-- from a mark and a problem to an answer: variables below the mark are frozen, that is, they count as constants
-- (matching is unification with the mark at the first variable of the clause or rule instance, so that the older ones are frozen)
abbrev pub Unification : Type 0
Unification = ℕ → Problem → Answer

-- the answer to which the rules come; that they come to one is proved under `ending`
unfoldable pub unify : (m : ℕ) → Problem → Answer
unify m p = (unification-ends m p).0

-- what a step leaves to be counted
abbrev pub steps_left : (Problem → ℕ) → Step → ℕ
steps_left count (Ends a) = 0
steps_left count (Goes q) = count q

-- the steps to the answer, at most n
abbrev pub count_steps : (m n : ℕ) → Problem → ℕ
count_steps m zero p = 0
count_steps m (suc n) p = suc (steps_left (count_steps m n) (step m p))

-- the number of steps to the answer
unfoldable pub steps_of : (m : ℕ) → Problem → ℕ
steps_of m p = count_steps m (unification-ends m p).1.steps p
