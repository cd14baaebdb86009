-- Passing over clauses whose keys don't agree.
use Rattle.std.proofs.Common.{◌≡◌, ℕ, zero, suc, ◌+◌, ◌-◌, ◌≤◌, Bool, true, false, cond, List, [], ◌∷◌, drop, filter, Option, Some, None, refl, sym, ap, ◌∙◌, arith}
use Rattle.std.specs.Prelude.{slice_get}
use Rattle.ref_terms.specs.unification.Unification.{unify}
use Rattle.ref_terms.specs.search.Program.{Program, Clause, modes_of, headed_by}
use Rattle.ref_terms.specs.search.Candidates.{program_candidates}
use Rattle.ref_terms.specs.search.State.{Candidate, of_program}
use Rattle.ref_terms.specs.search.Strip.{is_open}
use Rattle.ref_terms.specs.search.Resolve.{resolve, decided}
use Rattle.clause_key.specs.declared.key.Key.{Key}
use Rattle.clause_key.specs.Keys.{atom_key, agree}
use Rattle.clause_key.specs.Passing.{NoneAgrees}
use Rattle.clause_key.specs.Laws.{PassingOverResolvesTheSame, PassingOverStripsTheSame}
use Rattle.clause_key.proofs.ClashLemmas.{disagreeing-clashes, disagreeing-stripped}

-- the clauses from one that is there on
drop-at : (ks : List Clause) (i : ℕ) (k : Clause) → slice_get ks i ≡ Some k → drop i ks ≡ k ∷ drop (suc i) ks
drop-at [] i k e = absurd (let z : None ≡ Some k = e in cc)
drop-at (x ∷ ks) zero k e = ap (λ z. z ∷ ks) (let z : Some x ≡ Some k = e in let y : x ≡ k = cc in y)
drop-at (x ∷ ks) (suc i) k e = drop-at ks i k e

drop-none : (ks : List Clause) (i : ℕ) → slice_get ks i ≡ None → (drop i ks ≡ []) × (drop (suc i) ks ≡ [])
drop-none [] zero e = (refl, refl)
drop-none [] (suc i) e = (refl, refl)
drop-none (x ∷ ks) zero e = absurd (let z : Some x ≡ None = e in cc)
drop-none (x ∷ ks) (suc i) e = drop-none ks i e

-- whatever ignores clauses of the constant whose keys don't agree
module _ {A : Type 0} (p : Program) (c : ℕ) (key : Key) (look : List Candidate → A)
    (ignores : (i : ℕ) (k : Clause) (cs : List Candidate) → headed_by c k.head ≡ true → agree key (atom_key p k.head) ≡ false → look (of_program i k ∷ cs) ≡ look cs) where
  abbrev pub from-on : ℕ → A
  from-on i = look (program_candidates c i (drop i p.clauses))

  one-over : (i : ℕ) → NoneAgrees p c key i (suc i) → from-on i ≡ from-on (suc i)
  one-over i none = by (slice_get p.clauses i) refl
    where
      skip : (k : Clause) → slice_get p.clauses i ≡ Some k → (b : Bool) → headed_by c k.head ≡ b
          → look (cond b (of_program i k ∷ program_candidates c (suc i) (drop (suc i) p.clauses)) (program_candidates c (suc i) (drop (suc i) p.clauses))) ≡ from-on (suc i)
      skip k e true h = ignores i k (program_candidates c (suc i) (drop (suc i) p.clauses)) h (none i k (omega arith) (omega arith) e h)
      skip k e false h = refl

      by : (o : Option Clause) → slice_get p.clauses i ≡ o → from-on i ≡ from-on (suc i)
      by None e =
          let d = drop-none p.clauses i e in
          ap (λ (ks : List Clause). look (program_candidates c i ks)) d.0 ∙ sym (ap (λ (ks : List Clause). look (program_candidates c (suc i) ks)) d.1)
      by (Some k) e = ap (λ (ks : List Clause). look (program_candidates c i ks)) (drop-at p.clauses i k e) ∙ skip k e (headed_by c k.head) refl

  all-over : (n from to : ℕ) → from + n ≡ to → NoneAgrees p c key from to → from-on from ≡ from-on to
  all-over zero from to e none = ap from-on (let z : from ≡ to = omega (arith, e) in z)
  all-over (suc n) from to e none =
      one-over from (λ j k l h. none j k l (omega (arith, e, h)))
      ∙ all-over n (suc from) to (omega (arith, e)) (λ j k l h. none j k (omega (arith, l)) h)

  pub passes : (from to : ℕ) → from ≤ to → NoneAgrees p c key from to → from-on from ≡ from-on to
  passes from to l none = all-over (to - from) from to (omega (arith, l)) none

-- the first that doesn't clash
pub passing-resolves : PassingOverResolvesTheSame
passing-resolves p c from to barrier b goal rest call l none =
    passes p c (atom_key p goal.term) (resolve unify (modes_of p c) b goal rest barrier)
    (λ i k cs h d. ap (decided cs (resolve unify (modes_of p c) b goal rest barrier cs)) (disagreeing-clashes p c i barrier k b goal rest call h d)) from to l none

-- those that don't clash
pub passing-strips : PassingOverStripsTheSame
passing-strips p c from to b goal rest is call l none =
    passes p c (atom_key p goal.term) (filter (is_open unify p b))
    (λ i k cs h d. ap (λ o. cond o (of_program i k ∷ filter (is_open unify p b) cs) (filter (is_open unify p b) cs)) (disagreeing-stripped p c i k b goal rest is call h d)) from to l none
