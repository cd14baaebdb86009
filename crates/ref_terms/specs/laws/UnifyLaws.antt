-- What the laws on the answers of unification say.
use Rattle.std.specs.Prelude.{◌≡◌, ℕ, suc, List, [], ◌∷◌}
use Rattle.ref_terms.specs.unification.Problem.{Equation, Binding, Problem, Answer, Goes, Ends}
use Rattle.ref_terms.specs.unification.Rules.{step}
use Rattle.ref_terms.specs.unification.Run.{Unifies}
use Rattle.ref_terms.specs.unification.Unification.{unify, steps_of}
use Rattle.ref_terms.specs.search.Sequence.{continued}

-- a run has one answer
abbrev pub HasOneAnswer : Type 0
HasOneAnswer = (m : ℕ) (p : Problem) (a b : Answer) → Unifies m p a → Unifies m p b → a ≡ b

-- the steps end, whatever the mark and the problem
abbrev pub UnificationEnds : Type 0
UnificationEnds = (m : ℕ) (p : Problem) → (a : Answer) × Unifies m p a

-- the steps end in the answer of `unify`
abbrev pub UnifyIsReached : Type 0
UnifyIsReached = (m : ℕ) (p : Problem) → Unifies m p (unify m p)

-- whatever the steps end in is the answer of `unify`
abbrev pub UnifyIsTheOnlyAnswer : Type 0
UnifyIsTheOnlyAnswer = (m : ℕ) (p : Problem) (a : Answer) → Unifies m p a → unify m p ≡ a

-- a step keeps the answer
abbrev pub StepKeepsAnswer : Type 0
StepKeepsAnswer = (m : ℕ) (p q : Problem) → step m p ≡ Goes q → unify m p ≡ unify m q

-- the last step gives the answer
abbrev pub LastStepAnswers : Type 0
LastStepAnswers = (m : ℕ) (p : Problem) (a : Answer) → step m p ≡ Ends a → unify m p ≡ a

-- each step leaves one step fewer
abbrev pub StepsFall : Type 0
StepsFall = (m : ℕ) (p q : Problem) → step m p ≡ Goes q → steps_of m p ≡ suc (steps_of m q)

-- the last step is one step
abbrev pub LastStepIsOne : Type 0
LastStepIsOne = (m : ℕ) (p : Problem) (a : Answer) → step m p ≡ Ends a → steps_of m p ≡ 1

-- a list of equations is solved by its first one, and then by the others under the bindings that it made
abbrev pub UnifiesOneByOne : Type 0
UnifiesOneByOne = (m n : ℕ) (e : Equation) (es : List Equation) (bs : List Binding)
    → unify m (record { next_var = n; equations = e ∷ es; bindings = bs }) ≡ continued es bs m (unify m (record { next_var = n; equations = e ∷ []; bindings = [] }))
