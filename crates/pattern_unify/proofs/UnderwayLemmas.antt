-- One turn of unification after the other.
use Rattle.std.proofs.Common.{◌≡◌, ℕ, ◌<◌, Bool, List, [], ◌∷◌, ◌++◌, refl, sym, ap, subst, ◌∙◌, arith}
use Rattle.level_terms.specs.declared.node.Change.{Change}
use Rattle.level_terms.specs.Graph.{Graph}
use Rattle.level_terms.specs.Growth.{Grows}
use Rattle.level_terms.specs.Reading.{read}
use Rattle.ref_terms.specs.terms.Term.{Term}
use Rattle.ref_terms.specs.terms.Instance.{inst}
use Rattle.ref_terms.specs.declared.fault.Fault.{Fault as FaultName}
use Rattle.ref_terms.specs.unification.Problem.{Problem, Binding, Ends, Solved, Clashed, Faulted}
use Rattle.ref_terms.specs.unification.Rules.{step}
use Rattle.ref_terms.specs.unification.Unification.{unify, steps_of}
use Rattle.ref_terms.proofs.unification.Steps.{unify-goes, unify-ends, steps-fall}
use Rattle.beta_fragment.specs.declared.answer.UnifyStop.TheVariants.{Fault}
use Rattle.pattern_unify.specs.declared.equation.Equation.{Equation}
use Rattle.pattern_unify.specs.declared.equation.Turn.TheVariants as turn
use Rattle.ref_terms.specs.search.Branch.{bound}
use Rattle.pattern_unify.specs.Answers.{problem_of, AnswersTrue, AnswersFalse, StopsSo}
use Rattle.pattern_unify.specs.inside.Equations.{IsValidEquation, AllValidEquations, problem_at}
use Rattle.pattern_unify.specs.inside.Turns.{GoesOn, IsTurn}
use Rattle.pattern_unify.specs.inside.Underway.{IsUnderway}
use Rattle.pattern_unify.proofs.KeptLemmas.{grown-nodes}
use Rattle.pattern_unify.proofs.StepsLeft.{steps-with}

-- newer bindings come after older ones
bound-append : (made older : List Binding) (t : Term) → bound (made ++ older) t ≡ bound made (bound older t)
bound-append [] older t = refl
bound-append (b ∷ made) older t = ap (inst b.variable b.value) (bound-append made older t)

-- the beginning
pub underway-first : (m : ℕ) (g : Graph) (s t depth : ℕ) (e : Equation) (work : List Equation) → e.left.index ≡ s → e.right.index ≡ t → e.depth ≡ depth → work ≡ e ∷ [] → IsValidEquation g e → IsUnderway m (problem_of g s t depth) g g work
underway-first m g s t depth e work ls rs ds q v = record {
  made = [];
  answer = ap (λ (r : ℕ × ℕ × ℕ). unify m (problem_of g r.0 r.1 r.2)) (λ i. (sym ls i, sym rs i, sym ds i)) ∙ ap (λ w. unify m (problem_at g w [])) (sym q);
  readings = λ u env h. refl;
  valid = subst (AllValidEquations g) (sym q) (v, tt);
}

-- the answer of the work before a turn
answer-before : (m : ℕ) (p : Problem) (old now : Graph) (work rest : List Equation) (e : Equation) → work ≡ rest ++ e ∷ [] → (u : IsUnderway m p old now work) → unify m p ≡ unify m (problem_at now (rest ++ e ∷ []) u.made)
answer-before m p old now work rest e q u = u.answer ∙ ap (λ w. unify m (problem_at now w u.made)) q

-- a turn that goes on
pub underway-on : (m : ℕ) (p : Problem) (old now new : Graph) (s t : List Change) (work rest later : List Equation) (e : Equation) → work ≡ rest ++ e ∷ [] → Grows old now s t → IsUnderway m p old now work
    → GoesOn now new (λ bs. step m (problem_at now (rest ++ e ∷ []) bs)) later → IsUnderway m p old new later
underway-on m p old now new s t work rest later e q w u g = record {
  made = g.made ++ u.made;
  answer = answer-before m p old now work rest e q u ∙ unify-goes m (problem_at now (rest ++ e ∷ []) u.made) (problem_at new later (g.made ++ u.made)) (g.steps u.made);
  readings = λ x env h.
      g.readings x env (let more = grown-nodes old now s t w in omega (arith, h, more)) ∙ ap (bound g.made) (u.readings x env h) ∙ sym (bound-append g.made u.made (read old x env));
  valid = g.valid;
}

-- each turn leaves fewer steps
pub turn-falls : (m : ℕ) (now new : Graph) (work rest later : List Equation) (e : Equation) → work ≡ rest ++ e ∷ [] → GoesOn now new (λ bs. step m (problem_at now (rest ++ e ∷ []) bs)) later
    → steps_of m (problem_at new later []) < steps_of m (problem_at now work [])
turn-falls m now new work rest later e q g =
    let fall = steps-fall m (problem_at now (rest ++ e ∷ []) []) (problem_at new later (g.made ++ [])) (g.steps []) in
    let same = steps-with m (problem_at new later []) (g.made ++ []) in
    let here = ap (λ w. steps_of m (problem_at now w [])) q in
    omega (arith, fall, same, here)

-- a clash
pub underway-clash : (m : ℕ) (p : Problem) (old now : Graph) (work rest : List Equation) (e : Equation) → work ≡ rest ++ e ∷ [] → IsUnderway m p old now work
    → (knot : Bool) × ((bs : List Binding) → step m (problem_at now (rest ++ e ∷ []) bs) ≡ Ends (Clashed knot)) → AnswersFalse m p
underway-clash m p old now work rest e q u k = (k.0, answer-before m p old now work rest e q u ∙ unify-ends m (problem_at now (rest ++ e ∷ []) u.made) (Clashed k.0) (k.1 u.made))

-- a fault
pub underway-fault : (m : ℕ) (p : Problem) (old now new : Graph) (work rest later : List Equation) (e : Equation) → work ≡ rest ++ e ∷ [] → IsUnderway m p old now work
    → (f : FaultName) → IsTurn now new (λ bs. step m (problem_at now (rest ++ e ∷ []) bs)) later (turn.Fault f) → StopsSo m p (Fault f)
underway-fault m p old now new work rest later e q u f k = (k.0, k.1, answer-before m p old now work rest e q u ∙ unify-ends m (problem_at now (rest ++ e ∷ []) u.made) (Faulted k.0) (k.2 u.made))

-- nothing is left
step-end : (m : ℕ) (g : Graph) (made : List Binding) → step m (problem_at g [] made) ≡ Ends (Solved (problem_at g [] made))
unfolding step
step-end m g made = refl

pub underway-end : (m : ℕ) (p : Problem) (old now : Graph) (work : List Equation) → work ≡ [] → IsUnderway m p old now work → AnswersTrue m old now p
underway-end m p old now work none u = (
  problem_at now [] u.made,
  u.answer ∙ ap (λ w. unify m (problem_at now w u.made)) none ∙ unify-ends m (problem_at now [] u.made) (Solved (problem_at now [] u.made)) (step-end m now u.made),
  record { readings = u.readings; variables = refl },
)
