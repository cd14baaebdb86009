-- What the laws on keys say.
use Rattle.std.specs.Prelude.{◌≡◌, ℕ, ◌≤◌, Bool, true, false, List, ◌∷◌, length, drop, filter, Option, Some}
use Rattle.ref_terms.specs.terms.Term.{Con}
use Rattle.ref_terms.specs.unification.Spine.{args_of, head_of}
use Rattle.ref_terms.specs.unification.Unification.{unify}
use Rattle.ref_terms.specs.search.Program.{Program, Clause, modes_of, headed_by}
use Rattle.ref_terms.specs.search.Branch.{Goal, Branch}
use Rattle.ref_terms.specs.search.Candidates.{program_candidates}
use Rattle.ref_terms.specs.search.Assumption.{Assumption}
use Rattle.ref_terms.specs.search.State.{of_program, of_assumption}
use Rattle.ref_terms.specs.search.Resolve.{Clashes, try, resolve}
use Rattle.ref_terms.specs.search.Strip.{is_open}
use Rattle.clause_key.specs.Keys.{agree, atom_key, key_among, inputs_for, assumption_key}
use Rattle.clause_key.specs.Passing.{NoneAgrees}

-- the goal is a call of the predicate with its stated number of arguments, as where a call is no fault
pub record IsCallOf (p : Program) (c : ℕ) (goal : Goal) : Type 0 where
  pub constant : head_of goal.term ≡ Some (Con c)
  pub inputs : List Bool
  pub stated : modes_of p c ≡ Some inputs
  pub count : length (args_of goal.term) ≡ length inputs

-- a clause of the predicate whose key doesn't agree with the goal's clashes, by the rule of unification for two rigid heads
abbrev pub DisagreeingClauseClashes : Type 0
DisagreeingClauseClashes = (p : Program) (c i barrier : ℕ) (k : Clause) (b : Branch) (goal : Goal) (rest : List Goal) → IsCallOf p c goal → headed_by c k.head ≡ true
    → agree (atom_key p goal.term) (atom_key p k.head) ≡ false → try unify (modes_of p c) b goal rest barrier (of_program i k) ≡ Clashes

-- so it isn't among the clauses that an alternative keeps once its state is stripped
abbrev pub DisagreeingClauseIsStripped : Type 0
DisagreeingClauseIsStripped = (p : Program) (c i : ℕ) (k : Clause) (b : Branch) (goal : Goal) (rest : List Goal) → b.goals ≡ goal ∷ rest → IsCallOf p c goal
    → headed_by c k.head ≡ true → agree (atom_key p goal.term) (atom_key p k.head) ≡ false → is_open unify p b (of_program i k) ≡ false

-- the first clause that doesn't clash is found also where clauses whose keys don't agree are passed over
abbrev pub PassingOverResolvesTheSame : Type 0
PassingOverResolvesTheSame = (p : Program) (c from to barrier : ℕ) (b : Branch) (goal : Goal) (rest : List Goal) → IsCallOf p c goal → from ≤ to → NoneAgrees p c (atom_key p goal.term) from to
    → resolve unify (modes_of p c) b goal rest barrier (program_candidates c from (drop from p.clauses)) ≡ resolve unify (modes_of p c) b goal rest barrier (program_candidates c to (drop to p.clauses))

-- and the clauses that don't clash are the same ones
abbrev pub PassingOverStripsTheSame : Type 0
PassingOverStripsTheSame = (p : Program) (c from to : ℕ) (b : Branch) (goal : Goal) (rest : List Goal) → b.goals ≡ goal ∷ rest → IsCallOf p c goal → from ≤ to → NoneAgrees p c (atom_key p goal.term) from to
    → filter (is_open unify p b) (program_candidates c from (drop from p.clauses)) ≡ filter (is_open unify p b) (program_candidates c to (drop to p.clauses))

-- an assumption whose key doesn't agree with the goal's clashes as well
abbrev pub DisagreeingAssumptionClashes : Type 0
DisagreeingAssumptionClashes = (modes : Option (List Bool)) (c i barrier : ℕ) (a : Assumption) (b : Branch) (goal : Goal) (rest : List Goal) → head_of a.head ≡ Some (Con c)
    → length (args_of goal.term) ≡ length (inputs_for modes goal.term) → agree (key_among (inputs_for modes goal.term) (args_of goal.term)) (assumption_key (inputs_for modes goal.term) a) ≡ false
    → try unify modes b goal rest barrier (of_assumption i a) ≡ Clashes
