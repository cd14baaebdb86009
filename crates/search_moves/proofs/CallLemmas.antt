-- What trying a clause comes to, in the heap and in the reference.
use Rattle.std.proofs.Common.{◌≡◌, ℕ, zero, suc, drop, slice_get, Some, None, Bool, true, false, cond, nat_eq, List, [], ◌∷◌, ◌++◌, length, map, replicate, Option, unwrap_or, refl, sym, ap, ap₂, ◌∙◌}
use Rattle.std.proofs.lemmas.List.{map-append, length-map}
use Rattle.level_terms.specs.declared.node.TermId.{TermId}
use Rattle.level_terms.specs.Graph.{Graph}
use Rattle.level_terms.specs.Reading.{read}
use Rattle.beta_fragment.specs.Names.{names}
use Rattle.beta_fragment.specs.HeadForm.{all_read}
use Rattle.ref_terms.specs.search.Candidates.{choice_of, candidate_instance, program_candidates}
use Rattle.ref_terms.specs.terms.Term.{Term}
use Rattle.ref_terms.specs.unification.Spine.{args_of}
use Rattle.ref_terms.specs.unification.Problem.{Binding}
use Rattle.ref_terms.specs.unification.Unification.{unify}
use Rattle.ref_terms.specs.search.Program.{Clause, headed_by}
use Rattle.ref_terms.specs.search.State.{Candidate, of_program}
use Rattle.ref_terms.specs.search.Branch.{Goal, Branch, bound, bound_goal, bound_branch}
use Rattle.ref_terms.specs.search.Resolve.{Tried, Clashes, equations_at, entered, matched, try}
use Rattle.search_moves.specs.Matching.{tried_at}
use Rattle.search_moves.specs.Instances.{IsHeadMade}

-- what the reference makes of a clause, by all that it asks of it
abbrev tried_by : Branch → Goal → List Goal → (barrier mark : ℕ) → Candidate → (ms : List Bool) → (ss ts : List Term) → (next : ℕ) → (body : List Term) → Tried
tried_by branch goal rest barrier mark c ms ss ts n body = cond (nat_eq (length ss) (length ts))
    (matched unify (entered branch goal rest barrier c body) (equations_at false goal.names ms ss ts) (unify mark (record { next_var = n; equations = equations_at true goal.names ms ss ts; bindings = [] })))
    Clashes

-- a clause is tried by the nodes of its head
pub try-at : (g h : Graph) (modes : Option (List Bool)) (branch : Branch) (goal : Goal) (rest : List Goal) (barrier : ℕ) (c : Candidate) (hs : List TermId) (ms : List Bool) (args : List TermId)
    → branch.next_var ≡ length g.depths → args_of goal.term ≡ all_read h args → ms ≡ unwrap_or modes (replicate (length (args_of goal.term)) false) → IsHeadMade (candidate_instance c goal.names (length g.depths)) goal.names h hs
    → try unify modes branch goal rest barrier c
    ≡ cond (nat_eq (length hs) (length args)) (tried_at h (length g.depths) goal.names ms hs args (entered branch goal rest barrier c (candidate_instance c goal.names (length g.depths)).body)) Clashes
try-at g h modes branch goal rest barrier c hs ms args next reads inputs is =
    let n = length g.depths in
    let inst = candidate_instance c goal.names n in
    let by : List Bool → List Term → List Term → ℕ → Tried = λ ms ss ts k. tried_by branch goal rest barrier n c ms ss ts k inst.body in
    ap (λ m. tried_by branch goal rest barrier m c (unwrap_or modes (replicate (length (args_of goal.term)) false)) (args_of (candidate_instance c goal.names m).head) (args_of goal.term) (candidate_instance c goal.names m).next_var (candidate_instance c goal.names m).body) next
    ∙ ap (λ x. by x (args_of inst.head) (args_of goal.term) inst.next_var) (sym inputs)
    ∙ ap (λ x. by ms x (args_of goal.term) inst.next_var) (sym is.heads)
    ∙ ap (λ x. by ms (all_read h hs) x inst.next_var) reads
    ∙ ap (λ x. by ms (all_read h hs) (all_read h args) x) (sym is.variables)
    ∙ ap₂ (λ a b. cond (nat_eq a b) (tried_at h n goal.names ms hs args (entered branch goal rest barrier c inst.body)) Clashes)
    (length-map hs (λ t. read h t.index names)) (length-map args (λ t. read h t.index names))

-- bindings on the branch that was entered
pub entered-bound : (bs : List Binding) (n : ℕ) (branch : Branch) (goal : Goal) (rest : List Goal) (barrier : ℕ) (c : Candidate) (body : List Term)
    → bound_branch bs n (entered branch goal rest barrier c body)
    ≡ record (bound_branch bs n branch) { goals = map (λ t. record (bound_goal bs goal) { barrier = barrier; term = t }) (map (bound bs) body) ++ map (bound_goal bs) rest; path = choice_of c ∷ branch.path }
entered-bound bs n branch goal rest barrier c body =
    let at : Term → Goal = λ t. record goal { barrier = barrier; term = t } in
    let at' : Term → Goal = λ t. record (bound_goal bs goal) { barrier = barrier; term = t } in
    let each : (ts : List Term) → map (bound_goal bs) (map at ts) ≡ map at' (map (bound bs) ts) = bodies bs goal barrier in
    let goals = map-append (bound_goal bs) (map at body) rest ∙ ap (λ (xs : List Goal). xs ++ map (bound_goal bs) rest) (each body) in
    ap (λ (gs : List Goal). record (bound_branch bs n branch) { goals = gs; path = choice_of c ∷ branch.path }) goals
  where
    bodies : (bs : List Binding) (goal : Goal) (barrier : ℕ) (ts : List Term) → map (bound_goal bs) (map (λ (t : Term). record goal { barrier = barrier; term = t }) ts) ≡ map (λ (t : Term). record (bound_goal bs goal) { barrier = barrier; term = t }) (map (bound bs) ts)
    bodies bs goal barrier [] = refl
    bodies bs goal barrier (t ∷ ts) = ap (λ (xs : List Goal). record (bound_goal bs goal) { barrier = barrier; term = bound bs t } ∷ xs) (bodies bs goal barrier ts)

-- the clause with a number stands first in what is left from it on
pub drop-at : (ks : List Clause) (i : ℕ) (k : Clause) → slice_get ks i ≡ Some k → drop i ks ≡ k ∷ drop (suc i) ks
drop-at [] i k e = absurd (let z : ◌≡◌ {A = Option Clause} None (Some k) = e in cc)
drop-at (x ∷ ks) zero k e = let same : x ≡ k = cc in ap (λ (y : Clause). y ∷ ks) same
drop-at (x ∷ ks) (suc i) k e = drop-at ks i k e

pub candidates-at : (ks : List Clause) (c i : ℕ) (k : Clause) → slice_get ks i ≡ Some k → headed_by c k.head ≡ true → program_candidates c i (drop i ks) ≡ of_program i k ∷ program_candidates c (suc i) (drop (suc i) ks)
candidates-at ks c i k e headed =
    ap (program_candidates c i) (drop-at ks i k e)
    ∙ ap (λ b. cond b (of_program i k ∷ program_candidates c (suc i) (drop (suc i) ks)) (program_candidates c (suc i) (drop (suc i) ks))) headed
