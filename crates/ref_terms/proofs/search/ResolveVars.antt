-- Resolution, where variables are renamed.
use Rattle.std.proofs.Common.{◌≡◌, ℕ, ◌≤◌, Bool, true, false, cond, nat_eq, List, [], ◌∷◌, ◌++◌, map, length, replicate, refl, sym, ap, ap₂, ◌∙◌, subst, Option, unwrap_or, arith}
use Rattle.std.proofs.lemmas.List.{map-append, length-map}
use Rattle.ref_terms.specs.terms.Term.{Term}
use Rattle.ref_terms.specs.terms.Renamed.{vars}
use Rattle.ref_terms.specs.unification.Spine.{args_of}
use Rattle.ref_terms.specs.unification.Problem.{Equation, Binding, Problem, Answer, Solved, Clashed, Faulted as UnifyFaulted}
use Rattle.ref_terms.specs.unification.Renamed.{equation_vars, binding_vars, renamed_answer}
use Rattle.ref_terms.specs.unification.Unification.{Unification}
use Rattle.ref_terms.specs.search.Fault.{Judged}
use Rattle.ref_terms.specs.search.Instance.{ClauseInstance}
use Rattle.ref_terms.specs.search.Branch.{Goal, Branch, bound_equation, bound_branch}
use Rattle.ref_terms.specs.search.State.{Candidate, of_program, of_assumption}
use Rattle.ref_terms.specs.search.Candidates.{candidate_instance}
use Rattle.ref_terms.specs.search.Resolve.{Tried, Fits, Clashes, Breaks, equations_at, entered, unified, matched, try_instance, try, Resolved, decided, resolve}
use Rattle.ref_terms.specs.search.Renamed.{goal_vars, branch_vars, candidate_vars}
use Rattle.ref_terms.specs.search.Alike.{IsRenamingAt}
use Rattle.ref_terms.proofs.unification.RenamedLemmas.{args-vars}
use Rattle.ref_terms.proofs.search.ListVars.{map-square}
use Rattle.ref_terms.proofs.search.InstanceVars.{instance_vars, candidate-instance-vars}
use Rattle.ref_terms.proofs.search.BranchVars.{bound-equation-vars, bound-branch-vars}
use Rattle.ref_terms.proofs.search.CandidateVars.{choice-vars}
use Rattle.ref_terms.proofs.search.Fair.{IsFair, AnswerGrown, grown-weaker, Outcome, unfrozen, in-order-later}

-- both fit, with a renamed branch that numbers variables no lower, both clash, or both break by one fault
abbrev pub RenamedTried : (ℕ → ℕ) → ℕ → Tried → Tried → Type 0
RenamedTried p lo (Fits b) (Fits c) = (lo ≤ b.next_var) × (c ≡ branch_vars p b)
RenamedTried p lo Clashes Clashes = Unit {0}
RenamedTried p lo (Breaks e) (Breaks f) = e ≡ f
RenamedTried p lo _ _ = ⊥

-- the same of a branch with the clauses that are left
abbrev pub RenamedResolved : (ℕ → ℕ) → ℕ → Resolved → Resolved → Type 0
RenamedResolved p lo r s = (lo ≤ r.branch.next_var) × (s.branch ≡ branch_vars p r.branch) × (s.later ≡ map (candidate_vars p) r.later)

-- the next variable of a clause instance is no lower
candidate-grown : (c : Candidate) (names next : ℕ) → next ≤ (candidate_instance c names next).next_var
candidate-grown (of_program i k) names next = omega arith
candidate-grown (of_assumption i h) names next = omega arith

equations_at-vars : (p : ℕ → ℕ) (mode : Bool) (names : ℕ) (ms : List Bool) (ss ts : List Term) → equations_at mode names ms (map (vars p) ss) (map (vars p) ts) ≡ map (equation_vars p) (equations_at mode names ms ss ts)
equations_at-vars p mode names (true ∷ ms) (s ∷ ss) (t ∷ ts) = go mode _ _ (equations_at-vars p mode names ms ss ts)
  where
    go : (b : Bool) (xs ys : List Equation) → xs ≡ map (equation_vars p) ys → cond b (record { names = names; left = vars p s; right = vars p t } ∷ xs) xs ≡ map (equation_vars p) (cond b (record { names = names; left = s; right = t } ∷ ys) ys)
    go true xs ys e = ap (λ (zs : List Equation). record { names = names; left = vars p s; right = vars p t } ∷ zs) e
    go false xs ys e = e
equations_at-vars p mode names (false ∷ ms) (s ∷ ss) (t ∷ ts) = go mode _ _ (equations_at-vars p mode names ms ss ts)
  where
    go : (b : Bool) (xs ys : List Equation) → xs ≡ map (equation_vars p) ys → cond b xs (record { names = names; left = vars p s; right = vars p t } ∷ xs) ≡ map (equation_vars p) (cond b ys (record { names = names; left = s; right = t } ∷ ys))
    go false xs ys e = ap (λ (zs : List Equation). record { names = names; left = vars p s; right = vars p t } ∷ zs) e
    go true xs ys e = e
equations_at-vars p mode names (true ∷ ms) [] ts = refl
equations_at-vars p mode names (true ∷ ms) (s ∷ ss) [] = refl
equations_at-vars p mode names (false ∷ ms) [] ts = refl
equations_at-vars p mode names (false ∷ ms) (s ∷ ss) [] = refl
equations_at-vars p mode names [] ss ts = refl

entered-vars : (p : ℕ → ℕ) (branch : Branch) (goal : Goal) (rest : List Goal) (barrier : ℕ) (c : Candidate) (body : List Term)
    → entered (branch_vars p branch) (goal_vars p goal) (map (goal_vars p) rest) barrier (candidate_vars p c) (map (vars p) body) ≡ branch_vars p (entered branch goal rest barrier c body)
entered-vars p branch goal rest barrier c body =
    let at : (Term → Goal) = λ t. record goal { barrier = barrier; term = t } in
    let at' : (Term → Goal) = λ t. record (goal_vars p goal) { barrier = barrier; term = t } in
    let first : map at' (map (vars p) body) ≡ map (goal_vars p) (map at body) = sym (map-square (goal_vars p) at at' (vars p) (λ t. refl) body) in
    let goals : map at' (map (vars p) body) ++ map (goal_vars p) rest ≡ map (goal_vars p) (map at body ++ rest) = ap (λ (gs : List Goal). gs ++ map (goal_vars p) rest) first ∙ sym (map-append (goal_vars p) (map at body) rest) in
    λ i. record (branch_vars p branch) { goals = goals i; path = choice-vars p c i ∷ branch.path }

cond-tried : (p : ℕ → ℕ) (lo : ℕ) (b : Bool) (x y : Tried) → RenamedTried p lo x y → RenamedTried p lo (cond b x Clashes) (cond b y Clashes)
cond-tried p lo true x y w = w
cond-tried p lo false x y w = tt

module _ (unify : Unification) (fair : IsFair unify) (p : ℕ → ℕ) (lo : ℕ) (good : IsRenamingAt lo p) where
  unified-vars : (branch : Branch) (older : List Binding) (a : Answer) → AnswerGrown lo a → RenamedTried p lo (unified branch older a) (unified (branch_vars p branch) (map (binding_vars p) older) (renamed_answer p a))
  unified-vars branch older (Solved q) w = (w, ap (λ (bs : List Binding). bound_branch bs (p q.next_var) (branch_vars p branch)) (sym (map-append (binding_vars p) q.bindings older)) ∙ sym (bound-branch-vars p lo (p lo) good.good (q.bindings ++ older) q.next_var branch))
  unified-vars branch older (Clashed k) w = tt
  unified-vars branch older (UnifyFaulted f) w = refl

  matched-vars : (branch : Branch) (outputs : List Equation) (a : Answer) → AnswerGrown lo a → RenamedTried p lo (matched unify branch outputs a) (matched unify (branch_vars p branch) (map (equation_vars p) outputs) (renamed_answer p a))
  matched-vars branch outputs (Solved q) w =
      let problem : Problem = record { next_var = q.next_var; equations = map (bound_equation q.bindings) outputs; bindings = [] } in
      let es : map (bound_equation (map (binding_vars p) q.bindings)) (map (equation_vars p) outputs) ≡ map (equation_vars p) (map (bound_equation q.bindings) outputs) = sym (map-square (equation_vars p) (bound_equation q.bindings) (bound_equation (map (binding_vars p) q.bindings)) (equation_vars p) (bound-equation-vars p lo (p lo) good.good q.bindings) outputs) in
      let same : unify 0 (record { next_var = p q.next_var; equations = map (bound_equation (map (binding_vars p) q.bindings)) (map (equation_vars p) outputs); bindings = [] }) ≡ renamed_answer p (unify 0 problem) =
      ap (λ (zs : List Equation). unify 0 (record { next_var = p q.next_var; equations = zs; bindings = [] })) es
      ∙ fair.renames p 0 0 problem (unfrozen p lo (p lo) good.good) (in-order-later p lo q.next_var w good.in_order) in
      subst (λ (a : Answer). RenamedTried p lo (unified branch q.bindings (unify 0 problem)) (unified (branch_vars p branch) (map (binding_vars p) q.bindings) a)) (sym same)
      (unified-vars branch q.bindings (unify 0 problem) (grown-weaker lo q.next_var (unify 0 problem) w (fair.grows 0 problem)))
  matched-vars branch outputs (Clashed k) w = tt
  matched-vars branch outputs (UnifyFaulted f) w = refl

module _ (unify : Unification) (fair : IsFair unify) (p : ℕ → ℕ) (branch : Branch) (good : IsRenamingAt branch.next_var p) (modes : Option (List Bool)) (goal : Goal) (rest : List Goal) (barrier : ℕ) where
  -- a clause with these arguments against those of the goal
  abbrev tried_at : Branch → Branch → (names next : ℕ) → (mark : ℕ) → List Term → List Term → List Bool → Tried
  tried_at entered_branch old names next mark ss ts ms =
      cond (nat_eq (length ss) (length ts))
      (matched unify entered_branch (equations_at false names ms ss ts) (unify mark (record { next_var = next; equations = equations_at true names ms ss ts; bindings = [] })))
      Clashes

  at-vars : (c : Candidate) (k : ClauseInstance) → branch.next_var ≤ k.next_var → (ss ts : List Term) (ms : List Bool)
      → RenamedTried p branch.next_var
      (tried_at (entered branch goal rest barrier c k.body) branch goal.names k.next_var branch.next_var ss ts ms)
      (tried_at (entered (branch_vars p branch) (goal_vars p goal) (map (goal_vars p) rest) barrier (candidate_vars p c) (map (vars p) k.body)) branch goal.names (p k.next_var) (p branch.next_var) (map (vars p) ss) (map (vars p) ts) ms)
  at-vars c k low ss ts ms =
      let problem : Problem = record { next_var = k.next_var; equations = equations_at true goal.names ms ss ts; bindings = [] } in
      let same : unify (p branch.next_var) (record { next_var = p k.next_var; equations = equations_at true goal.names ms (map (vars p) ss) (map (vars p) ts); bindings = [] }) ≡ renamed_answer p (unify branch.next_var problem) =
      ap (λ (zs : List Equation). unify (p branch.next_var) (record { next_var = p k.next_var; equations = zs; bindings = [] })) (equations_at-vars p true goal.names ms ss ts)
      ∙ fair.renames p branch.next_var (p branch.next_var) problem good.good (in-order-later p branch.next_var k.next_var low good.in_order) in
      let lengths : nat_eq (length (map (vars p) ss)) (length (map (vars p) ts)) ≡ nat_eq (length ss) (length ts) = ap₂ nat_eq (length-map ss (vars p)) (length-map ts (vars p)) in
      rw (lengths, same, equations_at-vars p false goal.names ms ss ts, entered-vars p branch goal rest barrier c k.body)
      (cond-tried p branch.next_var (nat_eq (length ss) (length ts)) _ _
      (matched-vars unify fair p branch.next_var good (entered branch goal rest barrier c k.body) (equations_at false goal.names ms ss ts) (unify branch.next_var problem)
      (grown-weaker branch.next_var k.next_var (unify branch.next_var problem) low (fair.grows branch.next_var problem))))

  instance-tried : (c : Candidate) (k : ClauseInstance) → branch.next_var ≤ k.next_var → RenamedTried p branch.next_var (try_instance unify modes branch goal rest barrier c k) (try_instance unify modes (branch_vars p branch) (goal_vars p goal) (map (goal_vars p) rest) barrier (candidate_vars p c) (instance_vars p branch.next_var good.in_order k))
  instance-tried c k low =
      let fits : (List Term → List Term → List Bool → Tried) = λ ss ts ms. tried_at (entered (branch_vars p branch) (goal_vars p goal) (map (goal_vars p) rest) barrier (candidate_vars p c) (map (vars p) k.body)) branch goal.names (p k.next_var) (p branch.next_var) ss ts ms in
      let ss = args_of k.head in
      let ts = args_of goal.term in
      subst (λ (z : Tried). RenamedTried p branch.next_var (try_instance unify modes branch goal rest barrier c k) z)
      (sym (ap₂ (λ (xs ys : List Term). fits xs ys (unwrap_or modes (replicate (length ys) false))) (args-vars p k.head) (args-vars p goal.term)
      ∙ ap (λ (n : ℕ). fits (map (vars p) ss) (map (vars p) ts) (unwrap_or modes (replicate n false))) (length-map ts (vars p))))
      (at-vars c k low ss ts (unwrap_or modes (replicate (length ts) false)))

  pub try-vars : (c : Candidate) → RenamedTried p branch.next_var (try unify modes branch goal rest barrier c) (try unify modes (branch_vars p branch) (goal_vars p goal) (map (goal_vars p) rest) barrier (candidate_vars p c))
  try-vars c =
      subst (λ (z : Tried). RenamedTried p branch.next_var (try unify modes branch goal rest barrier c) z)
      (sym (ap (try_instance unify modes (branch_vars p branch) (goal_vars p goal) (map (goal_vars p) rest) barrier (candidate_vars p c)) (candidate-instance-vars p branch.next_var good.in_order c goal.names)))
      (instance-tried c (candidate_instance c goal.names branch.next_var) (candidate-grown c goal.names branch.next_var))

  decided-vars : (later : List Candidate) (older older' : Option (Judged Resolved)) → Outcome (RenamedResolved p branch.next_var) older older' → (x y : Tried) → RenamedTried p branch.next_var x y
      → Outcome (RenamedResolved p branch.next_var) (decided later older x) (decided (map (candidate_vars p) later) older' y)
  decided-vars later older older' r (Fits b) (Fits c) w = (w.0, w.1, refl)
  decided-vars later older older' r Clashes Clashes w = r
  decided-vars later older older' r (Breaks e) (Breaks f) w = w
  decided-vars later older older' r (Fits b) Clashes w = elim w [ ]
  decided-vars later older older' r (Fits b) (Breaks f) w = elim w [ ]
  decided-vars later older older' r Clashes (Fits c) w = elim w [ ]
  decided-vars later older older' r Clashes (Breaks f) w = elim w [ ]
  decided-vars later older older' r (Breaks e) (Fits c) w = elim w [ ]
  decided-vars later older older' r (Breaks e) Clashes w = elim w [ ]

  -- the first clause that doesn't clash is the same one
  pub resolve-vars : (cs : List Candidate) → Outcome (RenamedResolved p branch.next_var) (resolve unify modes branch goal rest barrier cs) (resolve unify modes (branch_vars p branch) (goal_vars p goal) (map (goal_vars p) rest) barrier (map (candidate_vars p) cs))
  resolve-vars [] = tt
  resolve-vars (c ∷ cs) = decided-vars cs (resolve unify modes branch goal rest barrier cs) (resolve unify modes (branch_vars p branch) (goal_vars p goal) (map (goal_vars p) rest) barrier (map (candidate_vars p) cs)) (resolve-vars cs)
      (try unify modes branch goal rest barrier c) (try unify modes (branch_vars p branch) (goal_vars p goal) (map (goal_vars p) rest) barrier (candidate_vars p c)) (try-vars c)
