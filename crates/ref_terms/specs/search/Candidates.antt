-- The clauses of a call, and its faults.
use Rattle.std.specs.Prelude.{ℕ, suc, Bool, cond, nat_eq, List, [], ◌∷◌, ◌++◌, length, filter, Option, Some, None}
use Rattle.ref_terms.specs.terms.Term.{Term}
use Rattle.ref_terms.specs.declared.fault.Fault.{Fault}
use Rattle.ref_terms.specs.declared.fault.Fault.TheVariants.{Unknown, Arity}
use Rattle.ref_terms.specs.search.Program.{Program, Clause, headed_by, modes_of}
use Rattle.ref_terms.specs.search.Assumption.{Assumption}
use Rattle.ref_terms.specs.search.Instance.{ClauseInstance, clause_instance, assumption_instance}
use Rattle.ref_terms.specs.declared.path.Choice.{Choice}
use Rattle.ref_terms.specs.declared.path.Choice.TheVariants.{Clause as ByClause, Hyp as ByAssumption}
use Rattle.ref_terms.specs.search.State.{Candidate, of_program, of_assumption}

-- the choice that a clause is
abbrev pub choice_of : Candidate → Choice
choice_of (of_program i k) = ByClause i
choice_of (of_assumption i h) = ByAssumption i

-- a clause at the names of the goal
abbrev pub candidate_instance : Candidate → (names next : ℕ) → ClauseInstance
candidate_instance (of_program i k) names next = clause_instance k names next
candidate_instance (of_assumption i h) names next = assumption_instance h names next

-- candidates with their places, from i on
abbrev pub from_place : {A : Type 0} → (ℕ → A → Candidate) → ℕ → List A → List Candidate
from_place make i [] = []
from_place make i (a ∷ xs) = make i a ∷ from_place make (suc i) xs

-- the program's clauses of a constant; i is the place of the first clause looked at
abbrev pub program_candidates : ℕ → ℕ → List Clause → List Candidate
program_candidates c i [] = []
program_candidates c i (k ∷ ks) = cond (headed_by c k.head) (of_program i k ∷ program_candidates c (suc i) ks) (program_candidates c (suc i) ks)

-- the assumptions of a constant
abbrev pub assumptions_for : ℕ → List Assumption → List Assumption
assumptions_for c hs = filter (λ h. nat_eq c h.pred) hs

-- the clauses of a constant in the order in which they are tried
abbrev pub candidates : Program → ℕ → List Assumption → List Candidate
candidates p c hs = from_place of_assumption 0 (assumptions_for c hs) ++ program_candidates c 0 p.clauses

-- a constant without stated number of arguments is a predicate where it is assumed
abbrev pub checked_arity : ℕ → Option (List Bool) → List Assumption → Option Fault
checked_arity n (Some ms) hs = cond (nat_eq n (length ms)) None (Some Arity)
checked_arity n None [] = Some Unknown
checked_arity n None (h ∷ hs) = None

-- the fault of a call, where its constant is no predicate or has another number of arguments
abbrev pub call_fault : Program → ℕ → List Term → List Assumption → Option Fault
call_fault p c ts hs = checked_arity (length ts) (modes_of p c) (assumptions_for c hs)
