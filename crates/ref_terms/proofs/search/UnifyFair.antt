-- `unify` sees no difference between renamed problems.
use Rattle.std.proofs.Common.{◌≡◌, ℕ, option_map, ap, ◌∙◌, arith}
use Rattle.ref_terms.specs.unification.Problem.{Problem, Answer, Solved, Clashed, Faulted}
use Rattle.ref_terms.specs.unification.Renamed.{renamed, renamed_answer, IsRenaming}
use Rattle.ref_terms.specs.unification.Run.{Unifies}
use Rattle.ref_terms.specs.unification.Unification.{unify}
use Rattle.ref_terms.specs.ending.Ending.{unification-ends}
use Rattle.ref_terms.proofs.unification.OneAnswer.{one_answer}
use Rattle.ref_terms.proofs.unification.RunRenamed.{InOrderFrom, run-renamed, run-grown}
use Rattle.ref_terms.proofs.search.Fair.{IsFair, AnswerGrown}

-- the steps end in the answer
unify-reached : (m : ℕ) (p : Problem) → Unifies m p (unify m p)
unfolding unify
unify-reached m p = (unification-ends m p).1

pub unify-renamed : (p : ℕ → ℕ) (m m' : ℕ) (q : Problem) → IsRenaming p m m' → InOrderFrom p q.next_var → unify m' (renamed p q) ≡ renamed_answer p (unify m q)
unify-renamed p m m' q good fresh =
    let there = unify-reached m q in
    one_answer m' (renamed p q) (unify m' (renamed p q)) (renamed_answer p (unify m q)) (unify-reached m' (renamed p q))
    (record { steps = there.steps; ends = run-renamed p m m' good q.next_var fresh there.steps q (omega arith) ∙ ap (option_map (renamed_answer p)) there.ends })

unify-grows : (m : ℕ) (q : Problem) → AnswerGrown q.next_var (unify m q)
unify-grows m q = go (unify m q) (unify-reached m q)
  where
    go : (a : Answer) → Unifies m q a → AnswerGrown q.next_var a
    go (Solved r) w = run-grown m q.next_var w.steps q (omega arith) r w.ends
    go (Clashed k) w = tt
    go (Faulted f) w = tt

pub unify-fair : IsFair unify
unify-fair = record { renames = unify-renamed; grows = unify-grows }
