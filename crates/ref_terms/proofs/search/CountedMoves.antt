-- Barriers stay numbers of alternatives that are there.
use Rattle.std.proofs.Common.{◌≡◌, ℕ, zero, suc, ◌-◌, ◌≤◌, Bool, true, false, cond, ℤ, List, [], ◌∷◌, ◌++◌, map, length, drop, filter, nat_eq, refl, sym, ap, ◌∙◌, subst, Option, Some, None, arith, replicate, unwrap_or}
use Rattle.ref_terms.specs.terms.Term.{Term, At, Int}
use Rattle.ref_terms.specs.unification.Spine.{args_of, head_of}
use Rattle.ref_terms.specs.unification.Problem.{Equation, Binding, Answer, Solved, Clashed, Faulted as UnifyFaulted}
use Rattle.ref_terms.specs.unification.Unification.{Unification}
use Rattle.ref_terms.specs.declared.fault.Fault.{Fault}
use Rattle.ref_terms.specs.search.Fault.{Judged, Good, Bad}
use Rattle.ref_terms.specs.search.Program.{Program, Query, modes_of, constant_of}
use Rattle.ref_terms.specs.search.Assumption.{Assumption, assumptions_of}
use Rattle.ref_terms.specs.search.Lists.{items_of}
use Rattle.ref_terms.specs.search.Value.{term_eq, is_flex, is_bare_name}
use Rattle.ref_terms.specs.search.Arithmetic.{less, value_of}
use Rattle.ref_terms.specs.search.Formula.{GoalKind, Truth, Failing, Cut, Conjunction, Disjunction, Assuming, ForAll, Exists, Suspending, Unifying, Comparing, Less, IsVariable, IsName, Printing, Evaluating, Applying, Atom, Wrong, goal_kind}
use Rattle.ref_terms.specs.search.Instance.{ClauseInstance}
use Rattle.ref_terms.specs.search.Branch.{Goal, Constraint, Branch, bound_goal, bound_equation, with_goals}
use Rattle.ref_terms.specs.search.State.{Candidate, Alternative, later_clauses, other_side, State, Running, Ended, Over, Move}
use Rattle.ref_terms.specs.search.Candidates.{candidates, candidate_instance, call_fault}
use Rattle.ref_terms.specs.search.Resolve.{Tried, Fits, Clashes, Breaks, equations_at, entered, unified, matched, try_instance, try, Resolved, decided, resolve}
use Rattle.ref_terms.specs.search.BranchMove.{cut_to, applied_whole, goes_or_fails, after_unifying, evaluates, compares, assumes, suspends, with_later, enters, calls}
use Rattle.ref_terms.specs.search.GoalMove.{kind_move}
use Rattle.ref_terms.specs.search.RuleInstance.{Firing}
use Rattle.ref_terms.specs.search.FirstRule.{first_firing}
use Rattle.ref_terms.specs.search.Next.{is_awake, woken_goal, by_goal, by_rule, by_waking, constant_modes, resolve_later, retaken, retry, next}
use Rattle.ref_terms.specs.search.Events.{first_state}
use Rattle.ref_terms.specs.search.Strip.{BarriersFall, AreCounted, IsCounted}
use Rattle.ref_terms.proofs.search.KeptCounts.{falls-higher, cut-low, cut-high, up-to-or-above}

bound-falls : (bs : List Binding) (top : ℕ) (gs : List Goal) → BarriersFall top gs → BarriersFall top (map (bound_goal bs) gs)
bound-falls bs top [] w = tt
bound-falls bs top (g ∷ gs) w = (w.0, bound-falls bs g.barrier gs w.1)

-- goals with the barrier at the top in front
front-falls : (goal : Goal) (n : ℕ) (ts : List Term) (rest : List Goal) → BarriersFall n rest → BarriersFall n (map (λ t. record goal { barrier = n; term = t }) ts ++ rest)
front-falls goal n [] rest w = w
front-falls goal n (t ∷ ts) rest w = (omega arith, front-falls goal n ts rest w)

woken-falls : (n : ℕ) (cs : List Constraint) (rest : List Goal) → BarriersFall n rest → BarriersFall n (map (woken_goal n) cs ++ rest)
woken-falls n [] rest w = w
woken-falls n (c ∷ cs) rest w = (omega arith, woken-falls n cs rest w)

-- the goals of the branch that a clause gives
abbrev TriedFalls : ℕ → Tried → Type 0
TriedFalls n (Fits b) = BarriersFall n b.goals
TriedFalls n Clashes = Unit {0}
TriedFalls n (Breaks e) = Unit {0}

-- and those of the one that resolution gives
abbrev pub OutcomeFalls : ℕ → Option (Judged Resolved) → Type 0
OutcomeFalls n (Some (Good r)) = BarriersFall n r.branch.goals
OutcomeFalls n (Some (Bad e)) = Unit {0}
OutcomeFalls n None = Unit {0}

module _ (unify : Unification) where
  unified-falls : (n : ℕ) (b : Branch) (older : List Binding) (a : Answer) → BarriersFall n b.goals → TriedFalls n (unified b older a)
  unified-falls n b older (Solved q) w = bound-falls (q.bindings ++ older) n b.goals w
  unified-falls n b older (Clashed k) w = tt
  unified-falls n b older (UnifyFaulted e) w = tt

  matched-falls : (n : ℕ) (b : Branch) (outputs : List Equation) (a : Answer) → BarriersFall n b.goals → TriedFalls n (matched unify b outputs a)
  matched-falls n b outputs (Solved q) w = unified-falls n b q.bindings (unify 0 (record { next_var = q.next_var; equations = map (bound_equation q.bindings) outputs; bindings = [] })) w
  matched-falls n b outputs (Clashed k) w = tt
  matched-falls n b outputs (UnifyFaulted e) w = tt

  cond-falls : (n : ℕ) (b : Bool) (x : Tried) → TriedFalls n x → TriedFalls n (cond b x Clashes)
  cond-falls n true x w = w
  cond-falls n false x w = tt

  try-falls : (modes : Option (List Bool)) (branch : Branch) (goal : Goal) (rest : List Goal) (n : ℕ) (c : Candidate) → BarriersFall n rest → TriedFalls n (try unify modes branch goal rest n c)
  try-falls modes branch goal rest n c w = at (candidate_instance c goal.names branch.next_var)
    where
      at : (k : ClauseInstance) → TriedFalls n (try_instance unify modes branch goal rest n c k)
      at k =
          let ss = args_of k.head in
          let ts = args_of goal.term in
          let ms = unwrap_or modes (replicate (length ts) false) in
          cond-falls n (nat_eq (length ss) (length ts)) _
          (matched-falls n (entered branch goal rest n c k.body) (equations_at false goal.names ms ss ts) (unify branch.next_var (record { next_var = k.next_var; equations = equations_at true goal.names ms ss ts; bindings = [] })) (front-falls goal n k.body rest w))

  pub resolve-falls : (modes : Option (List Bool)) (branch : Branch) (goal : Goal) (rest : List Goal) (n : ℕ) (cs : List Candidate) → BarriersFall n rest → OutcomeFalls n (resolve unify modes branch goal rest n cs)
  resolve-falls modes branch goal rest n [] w = tt
  resolve-falls modes branch goal rest n (c ∷ cs) w = go (try unify modes branch goal rest n c) (try-falls modes branch goal rest n c w) (resolve unify modes branch goal rest n cs) (resolve-falls modes branch goal rest n cs w)
    where
      go : (t : Tried) → TriedFalls n t → (o : Option (Judged Resolved)) → OutcomeFalls n o → OutcomeFalls n (decided cs o t)
      go (Fits b) v o k = v
      go Clashes v o k = k
      go (Breaks e) v o k = tt

  pub later-falls : (program : Program) (branch : Branch) (n : ℕ) (cs : List Candidate) (gs : List Goal) → BarriersFall n gs → OutcomeFalls n (resolve_later unify program branch n cs gs)
  later-falls program branch n cs [] w = tt
  later-falls program branch n cs (g ∷ gs) w = resolve-falls (constant_modes program (constant_of (head_of g.term))) branch g gs n cs (falls-higher g.barrier n gs w.0 w.1)

counted-drop : (k : ℕ) (xs : List Alternative) → AreCounted xs → AreCounted (drop k xs)
counted-drop zero xs w = w
counted-drop (suc k) [] w = tt
counted-drop (suc k) (x ∷ xs) w = counted-drop k xs w.1

cut-length : (n : ℕ) (xs : List Alternative) → n ≤ length xs → length (cut_to n xs) ≡ n
cut-length n [] low = let e : length (cut_to n []) ≡ 0 = none (0 - n) in omega arith
  where
    none : (k : ℕ) → length (drop {A = Alternative} k []) ≡ 0
    none zero = refl
    none (suc k) = refl
cut-length n (x ∷ xs) low = up-to-or-above n (length xs)
    (λ below. ap length (cut-low n x xs below) ∙ cut-length n xs below)
    (λ above. ap length (cut-high n (x ∷ xs) above) ∙ (let e : suc (length xs) ≡ n = omega arith in e))

longer-counted : (b : Branch) (cs : List Candidate) (xs : List Alternative) (gs : List Goal) → BarriersFall (length xs) gs → BarriersFall (length (with_later b cs xs)) gs
longer-counted b [] xs gs w = w
longer-counted b (c ∷ cs) xs gs w = falls-higher (length xs) (suc (length xs)) gs (omega arith) w

later-counted : (b : Branch) (cs : List Candidate) (xs : List Alternative) → BarriersFall (length xs) b.goals → AreCounted xs → AreCounted (with_later b cs xs)
later-counted b [] xs w v = v
later-counted b (c ∷ cs) xs w v = (w, v)

module _ (unify : Unification) (program : Program) (xs : List Alternative) (counted : AreCounted xs) where
  taken-counted : (branch : Branch) → BarriersFall (length xs) branch.goals → (r : Resolved) → BarriersFall (length xs) r.branch.goals → IsCounted (Running r.branch (with_later branch r.later xs))
  taken-counted branch w r v = (longer-counted branch r.later xs r.branch.goals v, later-counted branch r.later xs w counted)

  module _ (branch : Branch) (w : BarriersFall (length xs) branch.goals) where
    enters-counted : (o : Option (Judged Resolved)) → OutcomeFalls (length xs) o → IsCounted (enters branch xs o).state
    enters-counted None v = counted
    enters-counted (Some (Good r)) v = taken-counted branch w r v
    enters-counted (Some (Bad e)) v = tt

    pub retaken-counted : (older : Move) → IsCounted older.state → (o : Option (Judged Resolved)) → OutcomeFalls (length xs) o → IsCounted (retaken branch xs older o).state
    retaken-counted older k None v = k
    retaken-counted older k (Some (Good r)) v = taken-counted branch w r v
    retaken-counted older k (Some (Bad e)) v = tt

    questions-counted : (b : Bool) → IsCounted (goes_or_fails b branch xs).state
    questions-counted true = (w, counted)
    questions-counted false = counted

    compares-counted : (j : Judged Bool) → IsCounted (compares j branch xs).state
    compares-counted (Good b) = questions-counted b
    compares-counted (Bad e) = tt

    unified-counted : (a : Answer) → IsCounted (after_unifying branch xs a).state
    unified-counted (Solved q) = (bound-falls q.bindings (length xs) branch.goals w, counted)
    unified-counted (Clashed k) = counted
    unified-counted (UnifyFaulted e) = tt

    evaluates-counted : (names : ℕ) (x : Term) (j : Judged ℤ) → IsCounted (evaluates unify names x j branch xs).state
    evaluates-counted names x (Good z) = unified-counted (unify 0 (record { next_var = branch.next_var; equations = record { names = names; left = x; right = At (Int z) } ∷ []; bindings = [] }))
    evaluates-counted names x (Bad e) = tt

  module _ (branch : Branch) (goal : Goal) (rest : List Goal) (all : BarriersFall (length xs) branch.goals) (w : BarriersFall (length xs) (goal ∷ rest)) where
    others : BarriersFall (length xs) rest
    others = falls-higher goal.barrier (length xs) rest w.0 w.1

    first-same : goal.barrier ≤ goal.barrier
    first-same = omega arith

    calls-counted : (c : ℕ) (o : Option Fault) → IsCounted (calls unify program c branch goal rest xs o).state
    calls-counted c (Some e) = tt
    calls-counted c None = enters-counted branch all (resolve unify (modes_of program c) branch goal rest (length xs) (candidates program c goal.assumptions)) (resolve-falls unify (modes_of program c) branch goal rest (length xs) (candidates program c goal.assumptions) others)

    assumes-counted : (t : Term) (j : Judged (List Assumption)) → IsCounted (assumes goal t branch rest xs j).state
    assumes-counted t (Good hs) = (w, counted)
    assumes-counted t (Bad e) = tt

    suspends-counted : (t : Term) (o : Option (List Term)) → IsCounted (suspends goal t branch rest xs o).state
    suspends-counted t None = tt
    suspends-counted t (Some ks) = (others, counted)

    pub kind-counted : (k : GoalKind) → IsCounted (kind_move unify program branch goal rest xs k).state
    kind-counted Truth = (others, counted)
    kind-counted Failing = counted
    kind-counted Cut = (subst (λ (n : ℕ). BarriersFall n rest) (sym (cut-length goal.barrier xs w.0)) w.1, counted-drop (length xs - goal.barrier) xs counted)
    kind-counted (Conjunction s t) = ((w.0, (first-same, w.1)), counted)
    kind-counted (Disjunction s t) = ((let low = w.0 in omega arith, w.1), (w, counted))
    kind-counted (Assuming d t) = assumes-counted t (assumptions_of goal.names d)
    kind-counted (ForAll f) = (w, counted)
    kind-counted (Exists f) = (w, counted)
    kind-counted (Suspending t k) = suspends-counted t (items_of k)
    kind-counted (Unifying s t) = unified-counted (with_goals rest branch) others (unify 0 (record { next_var = branch.next_var; equations = record { names = goal.names; left = s; right = t } ∷ []; bindings = [] }))
    kind-counted (Comparing s t) = questions-counted (with_goals rest branch) others (term_eq s t)
    kind-counted (IsVariable t) = questions-counted (with_goals rest branch) others (is_flex t)
    kind-counted (IsName t) = questions-counted (with_goals rest branch) others (is_bare_name t)
    kind-counted (Evaluating x e) = evaluates-counted (with_goals rest branch) others goal.names x (value_of e)
    kind-counted (Less s t) = compares-counted (with_goals rest branch) others (less s t)
    kind-counted (Printing t) = (others, counted)
    kind-counted (Applying f a r) = unified-counted (with_goals rest branch) others (unify 0 (record { next_var = branch.next_var; equations = record { names = goal.names; left = applied_whole f a; right = r } ∷ []; bindings = [] }))
    kind-counted (Atom c ts) = calls-counted c (call_fault program c ts goal.assumptions)
    kind-counted (Wrong e) = tt

  module _ (branch : Branch) (all : BarriersFall (length xs) branch.goals) where
    goal-counted : (gs : List Goal) → BarriersFall (length xs) gs → IsCounted (by_goal unify program branch xs gs).state
    goal-counted [] w = counted
    goal-counted (g ∷ gs) w = kind-counted branch g gs all w (goal_kind g.term)

    rule-counted : (o : Option (Judged Firing)) → IsCounted (by_rule unify program branch xs o).state
    rule-counted None = goal-counted branch.goals all
    rule-counted (Some (Good f)) = ((omega arith, all), counted)
    rule-counted (Some (Bad e)) = tt

    pub waking-counted : (up : List Constraint) → IsCounted (by_waking unify program branch xs up).state
    waking-counted [] = rule-counted (first_firing unify branch 0 program.rules)
    waking-counted (c ∷ cs) = (woken-falls (length xs) (c ∷ cs) branch.goals all, counted)

retry-counted : (unify : Unification) (program : Program) (xs : List Alternative) → AreCounted xs → IsCounted (retry unify program xs).state
retry-counted unify program [] w = tt
retry-counted unify program (other_side b ∷ xs) w = w
retry-counted unify program (later_clauses b cs ∷ xs) w = retaken-counted unify program xs w.1 b w.0 (retry unify program xs) (retry-counted unify program xs w.1) (resolve_later unify program b (length xs) cs b.goals) (later-falls unify program b (length xs) cs b.goals w.0)

pub next-counted : (unify : Unification) (program : Program) (s : State) → IsCounted s → IsCounted (next unify program s).state
unfolding next
next-counted unify program (Running b xs) w = waking-counted unify program xs w.1 b w.0 (filter is_awake b.store)
next-counted unify program (Ended b xs) w = retry-counted unify program xs w
next-counted unify program (Over e) w = tt

pub first-counted : (q : Query) → IsCounted (first_state q)
first-counted q = ((omega arith, tt), tt)
