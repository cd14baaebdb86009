-- Which clauses of a predicate agree with a key.
use Rattle.std.specs.Prelude.{◌≡◌, ℕ, suc, ◌<◌, ◌≤◌, ◌&&◌, Bool, true, false, cond, List, [], ◌∷◌, length, slice_get, Option, Some, None}
use Rattle.ref_terms.specs.search.Program.{Program, Clause, headed_by}
use Rattle.clause_key.specs.declared.key.Key.{Key}
use Rattle.clause_key.specs.Keys.{agree, atom_key}

-- whether the clause is one of the predicate, and its key agrees
abbrev pub is_agreeing : Program → (c : ℕ) → Key → Clause → Bool
is_agreeing p c key k = headed_by c k.head && agree key (atom_key p k.head)

-- the numbers of the clauses that pass a test, in text order; i is the number of the first clause looked at
abbrev pub numbers_of : (Clause → Bool) → (i : ℕ) → List Clause → List ℕ
numbers_of test i [] = []
numbers_of test i (k ∷ ks) = cond (test k) (i ∷ numbers_of test (suc i) ks) (numbers_of test (suc i) ks)

-- no clause of the constant with a number from one on up to another agrees with the key
abbrev pub NoneAgrees : Program → (c : ℕ) → Key → (from to : ℕ) → Type 0
NoneAgrees p c key from to = (j : ℕ) (k : Clause) → from ≤ j → j < to → slice_get p.clauses j ≡ Some k → headed_by c k.head ≡ true → agree key (atom_key p k.head) ≡ false

-- the clause with this number is the first one of the constant from a number on that agrees with the key
pub record IsNextAt (p : Program) (c : ℕ) (key : Key) (from i : ℕ) : Type 0 where
  pub clause : Clause
  pub here : slice_get p.clauses i ≡ Some clause
  pub headed : headed_by c clause.head ≡ true
  pub agrees : agree key (atom_key p clause.head) ≡ true
  pub low : from ≤ i
  pub passed : NoneAgrees p c key from i

-- so, if there is one
abbrev pub IsNextFor : Program → (c : ℕ) → Key → (from : ℕ) → Option ℕ → Type 0
IsNextFor p c key from None = NoneAgrees p c key from (length p.clauses)
IsNextFor p c key from (Some i) = IsNextAt p c key from i
