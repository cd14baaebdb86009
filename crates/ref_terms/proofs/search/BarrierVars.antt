-- No move of one branch depends on its barriers.
use Rattle.std.proofs.Common.{◌≡◌, ℕ, Bool, true, false, cond, not, nat_eq, List, [], ◌∷◌, ◌++◌, map, length, replicate, filter, refl, sym, ap, ap₂, ◌∙◌, Option, option_map, unwrap_or}
use Rattle.std.proofs.lemmas.List.{map-append}
use Rattle.ref_terms.specs.terms.Term.{Term}
use Rattle.ref_terms.specs.unification.Spine.{args_of}
use Rattle.ref_terms.specs.unification.Problem.{Equation, Binding, Answer, Solved, Clashed, Faulted as UnifyFaulted}
use Rattle.ref_terms.specs.unification.Unification.{Unification}
use Rattle.ref_terms.specs.search.Fault.{Judged, judged_map}
use Rattle.ref_terms.specs.search.Instance.{ClauseInstance}
use Rattle.ref_terms.specs.search.Branch.{Goal, Branch, bound_equation, bound_goal, bound_branch}
use Rattle.ref_terms.specs.search.State.{Candidate}
use Rattle.ref_terms.specs.search.Candidates.{candidate_instance}
use Rattle.ref_terms.specs.search.Resolve.{Tried, Fits, Clashes, Breaks, equations_at, entered, unified, matched, try_instance, try, Resolved, decided, resolve}
use Rattle.ref_terms.specs.search.Strip.{recounted, with_barriers, is_clash}
use Rattle.ref_terms.proofs.search.ListVars.{map-square}

-- what a clause comes to, with barriers counted anew
abbrev pub tried_counted : (ℕ → ℕ) → Tried → Tried
tried_counted f (Fits b) = Fits (with_barriers f b)
tried_counted f Clashes = Clashes
tried_counted f (Breaks e) = Breaks e

-- what resolution comes to, with barriers counted anew and these of the later clauses
abbrev pub resolved_counted : (ℕ → ℕ) → (List Candidate → List Candidate) → Resolved → Resolved
resolved_counted f chosen r = record { branch = with_barriers f r.branch; later = chosen r.later }

module _ (f : ℕ → ℕ) where
  pub bound-counted : (bs : List Binding) (next : ℕ) (b : Branch) → bound_branch bs next (with_barriers f b) ≡ with_barriers f (bound_branch bs next b)
  bound-counted bs next b = λ i. record (bound_branch bs next b) { goals = map-square (bound_goal bs) (recounted f) (recounted f) (bound_goal bs) (λ g. refl) b.goals i }

  entered-counted : (branch : Branch) (goal : Goal) (rest : List Goal) (n : ℕ) (c : Candidate) (body : List Term) → entered (with_barriers f branch) (recounted f goal) (map (recounted f) rest) (f n) c body ≡ with_barriers f (entered branch goal rest n c body)
  entered-counted branch goal rest n c body =
      let at : (Term → Goal) = λ t. record goal { barrier = n; term = t } in
      let at' : (Term → Goal) = λ t. record goal { barrier = f n; term = t } in
      let first : (ts : List Term) → map at' ts ≡ map (recounted f) (map at ts) = firsts goal n in
      λ i. record (entered branch goal rest n c body) { goals = (ap (λ (gs : List Goal). gs ++ map (recounted f) rest) (first body) ∙ sym (map-append (recounted f) (map at body) rest)) i }
    where
      firsts : (goal : Goal) (n : ℕ) (ts : List Term) → map (λ t. record goal { barrier = f n; term = t }) ts ≡ map (recounted f) (map (λ t. record goal { barrier = n; term = t }) ts)
      firsts goal n [] = refl
      firsts goal n (t ∷ ts) = ap (λ (gs : List Goal). record goal { barrier = f n; term = t } ∷ gs) (firsts goal n ts)

  unified-counted : (branch : Branch) (older : List Binding) (a : Answer) → unified (with_barriers f branch) older a ≡ tried_counted f (unified branch older a)
  unified-counted branch older (Solved q) = ap Fits (bound-counted (q.bindings ++ older) q.next_var branch)
  unified-counted branch older (Clashed k) = refl
  unified-counted branch older (UnifyFaulted e) = refl

  module _ (unify : Unification) where
    matched-counted : (branch : Branch) (outputs : List Equation) (a : Answer) → matched unify (with_barriers f branch) outputs a ≡ tried_counted f (matched unify branch outputs a)
    matched-counted branch outputs (Solved q) = unified-counted branch q.bindings (unify 0 (record { next_var = q.next_var; equations = map (bound_equation q.bindings) outputs; bindings = [] }))
    matched-counted branch outputs (Clashed k) = refl
    matched-counted branch outputs (UnifyFaulted e) = refl

    cond-counted : (b : Bool) (x : Tried) → cond b (tried_counted f x) Clashes ≡ tried_counted f (cond b x Clashes)
    cond-counted true x = refl
    cond-counted false x = refl

    pub try-counted : (modes : Option (List Bool)) (branch : Branch) (goal : Goal) (rest : List Goal) (n : ℕ) (c : Candidate)
        → try unify modes (with_barriers f branch) (recounted f goal) (map (recounted f) rest) (f n) c ≡ tried_counted f (try unify modes branch goal rest n c)
    try-counted modes branch goal rest n c = at (candidate_instance c goal.names branch.next_var)
      where
        at : (k : ClauseInstance) → try_instance unify modes (with_barriers f branch) (recounted f goal) (map (recounted f) rest) (f n) c k ≡ tried_counted f (try_instance unify modes branch goal rest n c k)
        at k =
            let ss = args_of k.head in
            let ts = args_of goal.term in
            let ms = unwrap_or modes (replicate (length ts) false) in
            let es = equations_at false goal.names ms ss ts in
            let a : Answer = unify branch.next_var (record { next_var = k.next_var; equations = equations_at true goal.names ms ss ts; bindings = [] }) in
            ap (λ (x : Tried). cond (nat_eq (length ss) (length ts)) x Clashes)
            (ap (λ (b : Branch). matched unify b es a) (entered-counted branch goal rest n c k.body) ∙ matched-counted (entered branch goal rest n c k.body) es a)
            ∙ cond-counted (nat_eq (length ss) (length ts)) (matched unify (entered branch goal rest n c k.body) es a)

-- whether a clause clashes doesn't depend on the branch but for the arguments and names of the goal and the next variable
module _ (unify : Unification) where
  unified-clash : (b c : Branch) (older : List Binding) (a : Answer) → is_clash (unified b older a) ≡ is_clash (unified c older a)
  unified-clash b c older (Solved q) = refl
  unified-clash b c older (Clashed k) = refl
  unified-clash b c older (UnifyFaulted e) = refl

  matched-clash : (b c : Branch) (outputs : List Equation) (a : Answer) → is_clash (matched unify b outputs a) ≡ is_clash (matched unify c outputs a)
  matched-clash b c outputs (Solved q) = unified-clash b c q.bindings (unify 0 (record { next_var = q.next_var; equations = map (bound_equation q.bindings) outputs; bindings = [] }))
  matched-clash b c outputs (Clashed k) = refl
  matched-clash b c outputs (UnifyFaulted e) = refl

  cond-clash : (b : Bool) (x y : Tried) → is_clash x ≡ is_clash y → is_clash (cond b x Clashes) ≡ is_clash (cond b y Clashes)
  cond-clash true x y e = e
  cond-clash false x y e = refl

  pub try-clash : (modes : Option (List Bool)) (f : ℕ → ℕ) (branch : Branch) (goal : Goal) (rest rest' : List Goal) (n m : ℕ) (c : Candidate)
      → is_clash (try unify modes (with_barriers f branch) (recounted f goal) rest' m c) ≡ is_clash (try unify modes branch goal rest n c)
  try-clash modes f branch goal rest rest' n m c = at (candidate_instance c goal.names branch.next_var)
    where
      at : (k : ClauseInstance) → is_clash (try_instance unify modes (with_barriers f branch) (recounted f goal) rest' m c k) ≡ is_clash (try_instance unify modes branch goal rest n c k)
      at k =
          let ss = args_of k.head in
          let ts = args_of goal.term in
          let ms = unwrap_or modes (replicate (length ts) false) in
          cond-clash (nat_eq (length ss) (length ts)) _ _
          (matched-clash (entered (with_barriers f branch) (recounted f goal) rest' m c k.body) (entered branch goal rest n c k.body) (equations_at false goal.names ms ss ts) (unify branch.next_var (record { next_var = k.next_var; equations = equations_at true goal.names ms ss ts; bindings = [] })))

  pub try-clash-same : (modes : Option (List Bool)) (branch : Branch) (goal : Goal) (rest : List Goal) (n m : ℕ) (c : Candidate)
      → is_clash (try unify modes branch goal rest m c) ≡ is_clash (try unify modes branch goal rest n c)
  try-clash-same modes branch goal rest n m c = at (candidate_instance c goal.names branch.next_var)
    where
      at : (k : ClauseInstance) → is_clash (try_instance unify modes branch goal rest m c k) ≡ is_clash (try_instance unify modes branch goal rest n c k)
      at k =
          let ss = args_of k.head in
          let ts = args_of goal.term in
          let ms = unwrap_or modes (replicate (length ts) false) in
          cond-clash (nat_eq (length ss) (length ts)) _ _
          (matched-clash (entered branch goal rest m c k.body) (entered branch goal rest n c k.body) (equations_at false goal.names ms ss ts) (unify branch.next_var (record { next_var = k.next_var; equations = equations_at true goal.names ms ss ts; bindings = [] })))

  -- the first clause that doesn't clash, with barriers counted anew
  pub resolve-counted : (f : ℕ → ℕ) (modes : Option (List Bool)) (branch : Branch) (goal : Goal) (rest : List Goal) (n : ℕ) (cs : List Candidate)
      → resolve unify modes (with_barriers f branch) (recounted f goal) (map (recounted f) rest) (f n) cs ≡ option_map (judged_map (resolved_counted f (λ ds. ds))) (resolve unify modes branch goal rest n cs)
  resolve-counted f modes branch goal rest n [] = refl
  resolve-counted f modes branch goal rest n (c ∷ cs) =
      ap₂ (decided cs) (resolve-counted f modes branch goal rest n cs) (try-counted f unify modes branch goal rest n c)
      ∙ go (try unify modes branch goal rest n c) (resolve unify modes branch goal rest n cs)
    where
      go : (t : Tried) (o : Option (Judged Resolved)) → decided cs (option_map (judged_map (resolved_counted f (λ ds. ds))) o) (tried_counted f t) ≡ option_map (judged_map (resolved_counted f (λ ds. ds))) (decided cs o t)
      go (Fits b) o = refl
      go Clashes o = refl
      go (Breaks e) o = refl

  -- it is the first of those that don't clash
  pub resolve-open : (modes : Option (List Bool)) (branch : Branch) (goal : Goal) (rest : List Goal) (n : ℕ) (isopen : Candidate → Bool) → ((c : Candidate) → isopen c ≡ not (is_clash (try unify modes branch goal rest n c)))
      → (cs : List Candidate) → resolve unify modes branch goal rest n (filter isopen cs) ≡ option_map (judged_map (λ r. record { branch = r.branch; later = filter isopen r.later })) (resolve unify modes branch goal rest n cs)
  resolve-open modes branch goal rest n isopen e [] = refl
  resolve-open modes branch goal rest n isopen e (c ∷ cs) = go (try unify modes branch goal rest n c) refl (isopen c) (e c) (resolve-open modes branch goal rest n isopen e cs)
    where
      go : (t : Tried) → try unify modes branch goal rest n c ≡ t → (b : Bool) → b ≡ not (is_clash (try unify modes branch goal rest n c))
          → resolve unify modes branch goal rest n (filter isopen cs) ≡ option_map (judged_map (λ r. record { branch = r.branch; later = filter isopen r.later })) (resolve unify modes branch goal rest n cs)
          → resolve unify modes branch goal rest n (cond b (c ∷ filter isopen cs) (filter isopen cs)) ≡ option_map (judged_map (λ r. record { branch = r.branch; later = filter isopen r.later })) (decided cs (resolve unify modes branch goal rest n cs) (try unify modes branch goal rest n c))
      go (Fits d) h true v k = rw h refl
      go (Breaks d) h true v k = rw h refl
      go Clashes h false v k = rw h k
      go (Fits d) h false v k = absurd (let z : false ≡ true = v ∙ ap (λ (x : Tried). not (is_clash x)) h in cc)
      go (Breaks d) h false v k = absurd (let z : false ≡ true = v ∙ ap (λ (x : Tried). not (is_clash x)) h in cc)
      go Clashes h true v k = absurd (let z : true ≡ false = v ∙ ap (λ (x : Tried). not (is_clash x)) h in cc)
