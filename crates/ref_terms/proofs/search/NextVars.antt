-- One move, where each branch has its variables renamed.
use Rattle.std.proofs.Common.{◌≡◌, ℕ, ◌≤◌, not, List, [], ◌∷◌, ◌++◌, map, length, filter, refl, sym, ap, ap₂, ◌∙◌, subst, Option, Some, None, arith}
use Rattle.std.proofs.lemmas.List.{map-append}
use Rattle.ref_terms.specs.terms.Renamed.{vars}
use Rattle.ref_terms.specs.unification.Spine.{head_of}
use Rattle.ref_terms.specs.unification.Unification.{Unification}
use Rattle.ref_terms.specs.declared.fault.Fault.{Fault}
use Rattle.ref_terms.specs.search.Fault.{Judged, Good, Bad}
use Rattle.ref_terms.specs.search.Program.{Program, constant_of}
use Rattle.ref_terms.specs.search.Value.{is_flex}
use Rattle.ref_terms.specs.search.Branch.{Goal, Constraint, Branch}
use Rattle.ref_terms.specs.search.State.{Candidate, Alternative, later_clauses, other_side, State, Running, Ended, Over, Move, goes_on, faults}
use Rattle.ref_terms.specs.search.Resolve.{Resolved, resolve}
use Rattle.ref_terms.specs.search.RuleInstance.{Firing, after_firing}
use Rattle.ref_terms.specs.search.FirstRule.{first_firing}
use Rattle.ref_terms.specs.search.BranchMove.{with_later}
use Rattle.ref_terms.specs.search.Next.{is_awake, woken_goal, woken, by_goal, by_rule, by_waking, constant_modes, resolve_later, retaken, retry, next}
use Rattle.ref_terms.specs.search.Renamed.{goal_vars, constraint_vars, branch_vars, candidate_vars, alternative_vars, branch_of}
use Rattle.ref_terms.specs.search.Alike.{IsRenamingAt, RenamedAlternative, RenamedState, RenamedMove, Each}
use Rattle.ref_terms.proofs.search.ListVars.{map-square, filter-vars, any-vars}
use Rattle.ref_terms.proofs.search.TermVars.{is_flex-vars, constant-vars}
use Rattle.ref_terms.proofs.search.Fair.{IsFair, Outcome}
use Rattle.ref_terms.proofs.search.ResolveVars.{RenamedResolved, resolve-vars}
use Rattle.ref_terms.proofs.search.AlikeFacts.{branch-renamed, later-renamed, each-length}
use Rattle.ref_terms.proofs.search.BranchMoveVars.{goes-alike, faults-alike}
use Rattle.ref_terms.proofs.search.GoalMoveVars.{goal-alike}
use Rattle.ref_terms.proofs.search.RuleInstanceVars.{RenamedFiring, after-firing-vars}
use Rattle.ref_terms.proofs.search.FirstRuleVars.{first-firing-vars}

awake-vars : (p : ℕ → ℕ) (c : Constraint) → is_awake (constraint_vars p c) ≡ is_awake c
awake-vars p c = any-vars (vars p) (λ k. not (is_flex k)) (λ k. not (is_flex k)) (λ k. ap not (is_flex-vars p k)) c.keys

woken-vars : (p : ℕ → ℕ) (branch : Branch) (barrier : ℕ) (up : List Constraint) → woken (branch_vars p branch) barrier (map (constraint_vars p) up) ≡ branch_vars p (woken branch barrier up)
woken-vars p branch barrier up =
    let goals : map (woken_goal barrier) (map (constraint_vars p) up) ++ map (goal_vars p) branch.goals ≡ map (goal_vars p) (map (woken_goal barrier) up ++ branch.goals) =
    ap (λ (gs : List Goal). gs ++ map (goal_vars p) branch.goals) (sym (map-square (goal_vars p) (woken_goal barrier) (woken_goal barrier) (constraint_vars p) (λ c. refl) up))
    ∙ sym (map-append (goal_vars p) (map (woken_goal barrier) up) branch.goals) in
    λ i. record (branch_vars p branch) { goals = goals i; store = filter-vars (constraint_vars p) (λ c. not (is_awake c)) (λ c. not (is_awake c)) (λ c. ap not (awake-vars p c)) branch.store i }

module _ (unify : Unification) (fair : IsFair unify) (program : Program) where
  module _ (p : ℕ → ℕ) (branch : Branch) (good : IsRenamingAt branch.next_var p) (xs ys : List Alternative) (w : Each RenamedAlternative xs ys) where
    stays : branch.next_var ≤ branch.next_var
    stays = omega arith

    same_length : length ys ≡ length xs
    same_length = each-length RenamedAlternative xs ys w

    goal-first : (gs : List Goal) → RenamedMove (by_goal unify program branch xs gs) (by_goal unify program (branch_vars p branch) ys (map (goal_vars p) gs))
    goal-first [] = (record { renaming = p; good = good; same = refl }, (record { renaming = p; good = good; same = refl }, w))
    goal-first (g ∷ gs) = goal-alike unify fair program xs ys w p branch good g gs

    rule-first : (o q : Option (Judged Firing)) → Outcome (RenamedFiring p branch.next_var) o q → RenamedMove (by_rule unify program branch xs o) (by_rule unify program (branch_vars p branch) ys q)
    rule-first None None r = goal-first branch.goals
    rule-first (Some (Bad e)) (Some (Bad f)) r = subst (λ (g : Fault). RenamedMove (faults e) (faults g)) r (faults-alike xs ys w e)
    rule-first (Some (Good f)) (Some (Good g)) r =
        goes-alike xs ys w p branch good (after_firing branch (length xs) f) (after_firing (branch_vars p branch) (length ys) g) r.0
        (ap₂ (λ (n : ℕ) (h : Firing). after_firing (branch_vars p branch) n h) same_length r.1 ∙ after-firing-vars p branch (length xs) f)
    rule-first None (Some q) r = elim r [ ]
    rule-first (Some (Good a)) None r = elim r [ ]
    rule-first (Some (Good a)) (Some (Bad e)) r = elim r [ ]
    rule-first (Some (Bad a)) None r = elim r [ ]
    rule-first (Some (Bad a)) (Some (Good e)) r = elim r [ ]

    waking-first : (up : List Constraint) → RenamedMove (by_waking unify program branch xs up) (by_waking unify program (branch_vars p branch) ys (map (constraint_vars p) up))
    waking-first [] = rule-first (first_firing unify branch 0 program.rules) (first_firing unify (branch_vars p branch) 0 program.rules) (first-firing-vars unify fair p branch good 0 program.rules)
    waking-first (c ∷ cs) =
        goes-alike xs ys w p branch good (woken branch (length xs) (c ∷ cs)) (woken (branch_vars p branch) (length ys) (map (constraint_vars p) (c ∷ cs))) stays
        (ap (λ (n : ℕ). woken (branch_vars p branch) n (map (constraint_vars p) (c ∷ cs))) same_length ∙ woken-vars p branch (length xs) (c ∷ cs))

    running-alike : RenamedMove (by_waking unify program branch xs (filter is_awake branch.store)) (by_waking unify program (branch_vars p branch) ys (filter is_awake (map (constraint_vars p) branch.store)))
    running-alike = subst (λ (up : List Constraint). RenamedMove (by_waking unify program branch xs (filter is_awake branch.store)) (by_waking unify program (branch_vars p branch) ys up))
        (sym (filter-vars (constraint_vars p) is_awake is_awake (awake-vars p) branch.store)) (waking-first (filter is_awake branch.store))

    -- the clauses that are left
    later-vars : (n : ℕ) (cs : List Candidate) (gs : List Goal) → Outcome (RenamedResolved p branch.next_var) (resolve_later unify program branch n cs gs) (resolve_later unify program (branch_vars p branch) n (map (candidate_vars p) cs) (map (goal_vars p) gs))
    later-vars n cs [] = tt
    later-vars n cs (g ∷ gs) =
        subst (λ (o : Option ℕ). Outcome (RenamedResolved p branch.next_var) (resolve_later unify program branch n cs (g ∷ gs)) (resolve unify (constant_modes program o) (branch_vars p branch) (goal_vars p g) (map (goal_vars p) gs) n (map (candidate_vars p) cs)))
        (sym (constant-vars p g.term)) (resolve-vars unify fair p branch good (constant_modes program (constant_of (head_of g.term))) g gs n cs)

    retaken-alike : (older older' : Move) → RenamedMove older older' → (o q : Option (Judged Resolved)) → Outcome (RenamedResolved p branch.next_var) o q → RenamedMove (retaken branch xs older o) (retaken (branch_vars p branch) ys older' q)
    retaken-alike older older' v None None r = v
    retaken-alike older older' v (Some (Bad e)) (Some (Bad f)) r = subst (λ (g : Fault). RenamedMove (faults e) (faults g)) r (faults-alike xs ys w e)
    retaken-alike older older' v (Some (Good r)) (Some (Good s)) u =
        subst (λ (cs : List Candidate). RenamedMove (goes_on r.branch (with_later branch r.later xs)) (goes_on s.branch (with_later (branch_vars p branch) cs ys))) (sym u.2)
        (refl, (branch-renamed p branch.next_var good r.branch s.branch u.0 u.1, later-renamed p branch.next_var good branch stays r.later xs ys w))
    retaken-alike older older' v None (Some q) r = elim r [ ]
    retaken-alike older older' v (Some (Good a)) None r = elim r [ ]
    retaken-alike older older' v (Some (Good a)) (Some (Bad e)) r = elim r [ ]
    retaken-alike older older' v (Some (Bad a)) None r = elim r [ ]
    retaken-alike older older' v (Some (Bad a)) (Some (Good e)) r = elim r [ ]

    retried-alike : (older older' : Move) → RenamedMove older older' → (cs : List Candidate) → RenamedMove (retaken branch xs older (resolve_later unify program branch (length xs) cs branch.goals)) (retaken (branch_vars p branch) ys older' (resolve_later unify program (branch_vars p branch) (length ys) (map (candidate_vars p) cs) (map (goal_vars p) branch.goals)))
    retried-alike older older' v cs =
        subst (λ (n : ℕ). RenamedMove (retaken branch xs older (resolve_later unify program branch (length xs) cs branch.goals)) (retaken (branch_vars p branch) ys older' (resolve_later unify program (branch_vars p branch) n (map (candidate_vars p) cs) (map (goal_vars p) branch.goals)))) (sym same_length)
        (retaken-alike older older' v _ _ (later-vars (length xs) cs branch.goals))

  -- the newest alternative
  newest-alike : (x : Alternative) (p : ℕ → ℕ) → IsRenamingAt (branch_of x).next_var p → (xs ys : List Alternative) → Each RenamedAlternative xs ys → RenamedMove (retry unify program xs) (retry unify program ys)
      → RenamedMove (retry unify program (x ∷ xs)) (retry unify program (alternative_vars p x ∷ ys))
  newest-alike (other_side b) p good xs ys w v = goes-alike xs ys w p b good b (branch_vars p b) (omega arith) refl
  newest-alike (later_clauses b cs) p good xs ys w v = retried-alike p b good xs ys w (retry unify program xs) (retry unify program ys) v cs

  retry-alike : (xs ys : List Alternative) → Each RenamedAlternative xs ys → RenamedMove (retry unify program xs) (retry unify program ys)
  retry-alike [] [] w = (refl, refl)
  retry-alike (x ∷ xs) (y ∷ ys) w = subst (λ (z : Alternative). RenamedMove (retry unify program (x ∷ xs)) (retry unify program (z ∷ ys))) (sym w.0.same) (newest-alike x w.0.renaming w.0.good xs ys w.1 (retry-alike xs ys w.1))
  retry-alike [] (y ∷ ys) w = elim w [ ]
  retry-alike (x ∷ xs) [] w = elim w [ ]

  -- renamed states move to renamed states, with renamed events
  pub next-renamed : (s t : State) → RenamedState s t → RenamedMove (next unify program s) (next unify program t)
  unfolding next
  next-renamed (Running b xs) (Running c ys) w =
      subst (λ (z : Branch). RenamedMove (next unify program (Running b xs)) (by_waking unify program z ys (filter is_awake z.store))) (sym w.0.same) (running-alike w.0.renaming b w.0.good xs ys w.1)
  next-renamed (Ended b xs) (Ended c ys) w = retry-alike xs ys w.1
  next-renamed (Over e) (Over f) w = (w, w)
  next-renamed (Running b xs) (Ended c ys) w = elim w [ ]
  next-renamed (Running b xs) (Over f) w = elim w [ ]
  next-renamed (Ended b xs) (Running c ys) w = elim w [ ]
  next-renamed (Ended b xs) (Over f) w = elim w [ ]
  next-renamed (Over e) (Running c ys) w = elim w [ ]
  next-renamed (Over e) (Ended c ys) w = elim w [ ]
