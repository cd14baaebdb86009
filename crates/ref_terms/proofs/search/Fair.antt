-- Unification that sees no difference between renamed problems, and outcomes that are renamed.
use Rattle.std.proofs.Common.{◌≡◌, ℕ, ◌≤◌, Option, Some, None, sym, ◌∙◌, arith}
use Rattle.std.proofs.lemmas.Bool.{le-ltb}
use Rattle.ref_terms.specs.unification.Problem.{Problem, Answer, Solved, Clashed, Faulted}
use Rattle.ref_terms.specs.unification.Renamed.{renamed, renamed_answer, IsRenaming}
use Rattle.ref_terms.specs.unification.Unification.{Unification}
use Rattle.ref_terms.specs.search.Fault.{Judged, Good, Bad}
use Rattle.ref_terms.proofs.unification.RunRenamed.{InOrderFrom}

-- the next variable of the answer is no lower
abbrev pub AnswerGrown : ℕ → Answer → Type 0
AnswerGrown lo (Solved q) = lo ≤ q.next_var
AnswerGrown lo (Clashed k) = Unit {0}
AnswerGrown lo (Faulted f) = Unit {0}

-- renamed problems have renamed answers, and next variables don't fall
pub record IsFair (unify : Unification) : Type 0 where
  pub renames : (p : ℕ → ℕ) (m m' : ℕ) (q : Problem) → IsRenaming p m m' → InOrderFrom p q.next_var → unify m' (renamed p q) ≡ renamed_answer p (unify m q)
  pub grows : (m : ℕ) (q : Problem) → AnswerGrown q.next_var (unify m q)

pub grown-weaker : (lo hi : ℕ) (a : Answer) → lo ≤ hi → AnswerGrown hi a → AnswerGrown lo a
grown-weaker lo hi (Solved q) low w = omega arith
grown-weaker lo hi (Clashed k) low w = tt
grown-weaker lo hi (Faulted f) low w = tt

-- outcomes that are both none, both a fault, the same one, or related
abbrev pub Outcome : {A : Type 0} → (A → A → Type 0) → Option (Judged A) → Option (Judged A) → Type 0
Outcome R None None = Unit {0}
Outcome R (Some (Good a)) (Some (Good b)) = R a b
Outcome R (Some (Bad e)) (Some (Bad f)) = e ≡ f
Outcome R _ _ = ⊥

-- the renaming in matching with no variable frozen
pub unfrozen : (p : ℕ → ℕ) (m m' : ℕ) → IsRenaming p m m' → IsRenaming p 0 0
unfrozen p m m' good = record { one_to_one = good.one_to_one; frozen = λ v. le-ltb (p v) 0 (omega arith) ∙ sym (le-ltb v 0 (omega arith)) }

-- the renaming where more variables have been made
pub in-order-later : (p : ℕ → ℕ) (lo hi : ℕ) → lo ≤ hi → InOrderFrom p lo → InOrderFrom p hi
in-order-later p lo hi low h k above = h k (omega arith)
