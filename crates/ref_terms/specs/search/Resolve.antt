-- Resolution of an atom with a list of clauses.
use Rattle.std.specs.Prelude.{ℕ, Bool, true, false, cond, nat_eq, List, [], ◌∷◌, ◌++◌, map, length, replicate, Option, Some, None, unwrap_or}
use Rattle.ref_terms.specs.terms.Term.{Term}
use Rattle.ref_terms.specs.unification.Spine.{args_of}
use Rattle.ref_terms.specs.unification.Problem.{Equation, Binding, Answer, Solved, Clashed, Faulted as UnifyFaulted}
pub use Rattle.ref_terms.specs.unification.Unification.{Unification}
use Rattle.ref_terms.specs.search.Fault.{of_unification, Judged, Good, Bad}
use Rattle.ref_terms.specs.declared.fault.Fault.{Fault}
use Rattle.ref_terms.specs.search.Instance.{ClauseInstance}
use Rattle.ref_terms.specs.search.Branch.{Goal, Branch, bound_equation, bound_branch}
use Rattle.ref_terms.specs.search.State.{Candidate}
use Rattle.ref_terms.specs.search.Candidates.{choice_of, candidate_instance}

-- what a clause comes to
pub data Tried : Type 0 where
  Fits : Branch → Tried
  Clashes : Tried
  Breaks : Fault → Tried

-- the equations of the arguments with this mode, the clause's argument on the left
abbrev pub equations_at : (mode : Bool) → (names : ℕ) → List Bool → List Term → List Term → List Equation
equations_at mode names (true ∷ ms) (s ∷ ss) (t ∷ ts) = cond mode (record { names = names; left = s; right = t } ∷ equations_at mode names ms ss ts) (equations_at mode names ms ss ts)
equations_at mode names (false ∷ ms) (s ∷ ss) (t ∷ ts) = cond mode (equations_at mode names ms ss ts) (record { names = names; left = s; right = t } ∷ equations_at mode names ms ss ts)
equations_at mode names _ _ _ = []

-- the body as first goals, with this barrier, before the other goals
abbrev pub entered : Branch → Goal → List Goal → (barrier : ℕ) → Candidate → List Term → Branch
entered branch goal rest barrier c body = record branch { goals = map (λ t. record goal { barrier = barrier; term = t }) body ++ rest; path = choice_of c ∷ branch.path }

-- what a clause comes to after its outputs were unified
abbrev pub unified : Branch → List Binding → Answer → Tried
unified branch older (Solved q) = Fits (bound_branch (q.bindings ++ older) q.next_var branch)
unified branch older (Clashed knot) = Clashes
unified branch older (UnifyFaulted f) = Breaks (of_unification f)

-- what a clause comes to after its inputs were matched: its outputs are unified next, with no variable frozen
abbrev pub matched : Unification → Branch → List Equation → Answer → Tried
matched unify branch outputs (Solved q) = unified branch q.bindings (unify 0 (record { next_var = q.next_var; equations = map (bound_equation q.bindings) outputs; bindings = [] }))
matched unify branch outputs (Clashed knot) = Clashes
matched unify branch outputs (UnifyFaulted f) = Breaks (of_unification f)

-- a clause with another number of arguments clashes; in matching all variables older than the instance are frozen; without stated modes all arguments are outputs
abbrev pub try_instance : Unification → Option (List Bool) → Branch → Goal → List Goal → (barrier : ℕ) → Candidate → ClauseInstance → Tried
try_instance unify modes branch goal rest barrier c k =
    let ss = args_of k.head in
    let ts = args_of goal.term in
    let ms = unwrap_or modes (replicate (length ts) false) in
    cond (nat_eq (length ss) (length ts))
    (matched unify (entered branch goal rest barrier c k.body) (equations_at false goal.names ms ss ts)
    (unify branch.next_var (record { next_var = k.next_var; equations = equations_at true goal.names ms ss ts; bindings = [] })))
    Clashes

-- what a clause comes to for the first goal
abbrev pub try : Unification → Option (List Bool) → Branch → Goal → List Goal → (barrier : ℕ) → Candidate → Tried
try unify modes branch goal rest barrier c = try_instance unify modes branch goal rest barrier c (candidate_instance c goal.names branch.next_var)

-- the branch of the first clause that doesn't clash, with the clauses after it
pub record Resolved : Type 0 where
  pub branch : Branch
  pub later : List Candidate

-- the first clause that fits or breaks decides, else the rest
abbrev pub decided : List Candidate → Option (Judged Resolved) → Tried → Option (Judged Resolved)
decided later rest (Fits branch) = Some (Good (record { branch = branch; later = later }))
decided later rest Clashes = rest
decided later rest (Breaks f) = Some (Bad f)

-- the first of these clauses that doesn't clash; none where all clash
abbrev pub resolve : Unification → Option (List Bool) → Branch → Goal → List Goal → (barrier : ℕ) → List Candidate → Option (Judged Resolved)
resolve unify modes branch goal rest barrier [] = None
resolve unify modes branch goal rest barrier (c ∷ cs) = decided cs (resolve unify modes branch goal rest barrier cs) (try unify modes branch goal rest barrier c)
