-- The move of a stripped state is the stripped move, with the same event.
use Rattle.std.proofs.Common.{◌≡◌, ℕ, suc, ◌≤◌, Bool, true, false, cond, not, ◌||◌, ℤ, List, [], ◌∷◌, ◌++◌, map, length, filter, refl, sym, ap, ap₂, ◌∙◌, subst, Option, Some, None, option_map, arith}
use Rattle.std.proofs.lemmas.List.{map-append}
use Rattle.std.specs.List.{list_any}
use Rattle.ref_terms.specs.terms.Term.{Term, At, Int, Name}
use Rattle.ref_terms.specs.terms.Apply.{apply}
use Rattle.ref_terms.specs.search.Instance.{variable_under}
use Rattle.ref_terms.specs.unification.Spine.{head_of}
use Rattle.ref_terms.specs.unification.Problem.{Answer, Solved, Clashed, Faulted as UnifyFaulted}
use Rattle.ref_terms.specs.unification.Unification.{Unification}
use Rattle.ref_terms.specs.declared.fault.Fault.{Fault}
use Rattle.ref_terms.specs.declared.path.Choice.TheVariants.{Left as LeftSide, Right as RightSide}
use Rattle.ref_terms.specs.search.Fault.{Judged, Good, Bad, judged_map}
use Rattle.ref_terms.specs.search.Program.{Program, Rule, modes_of, constant_of}
use Rattle.ref_terms.specs.search.Assumption.{Assumption, assumptions_of}
use Rattle.ref_terms.specs.search.Lists.{items_of}
use Rattle.ref_terms.specs.search.Value.{term_eq, is_flex, is_bare_name}
use Rattle.ref_terms.specs.search.Arithmetic.{less, value_of}
use Rattle.ref_terms.specs.search.Formula.{GoalKind, Truth, Failing, Cut, Conjunction, Disjunction, Assuming, ForAll, Exists, Suspending, Unifying, Comparing, Less, IsVariable, IsName, Printing, Evaluating, Applying, Atom, Wrong, goal_kind}
use Rattle.ref_terms.specs.search.Branch.{Goal, Constraint, Branch, bound_branch, with_goals, goals_at}
use Rattle.ref_terms.specs.search.State.{Candidate, Alternative, later_clauses, other_side, Answered, State, Running, Ended, Over, Move, goes_on, faults}
use Rattle.ref_terms.specs.search.Candidates.{candidates, call_fault}
use Rattle.ref_terms.specs.search.Resolve.{Resolved, resolve}
use Rattle.ref_terms.specs.search.BranchMove.{fails, cut_to, applied_whole, goes_or_fails, after_unifying, evaluates, compares, assumes, suspends, with_later, enters, calls}
use Rattle.ref_terms.specs.search.GoalMove.{kind_move}
use Rattle.ref_terms.specs.search.RuleMatch.{heads_of}
use Rattle.ref_terms.specs.search.RuleInstance.{Firing, rule_instance, after_firing}
use Rattle.ref_terms.specs.search.FirstRule.{tuples, or_later, first_tuple, first_firing}
use Rattle.ref_terms.specs.search.Next.{is_awake, woken_goal, woken, by_goal, by_rule, by_waking, constant_modes, resolve_later, retaken, retry, next}
use Rattle.ref_terms.specs.search.Strip.{recounted, with_barriers, clashes_at, is_open, is_kept, kept_of, stripped, strip_all, strip, BarriersFall, AreCounted, IsCounted}
use Rattle.ref_terms.proofs.search.ListVars.{map-after}
use Rattle.ref_terms.proofs.search.BarrierVars.{resolved_counted, bound-counted, try-clash-same, resolve-counted, resolve-open}
use Rattle.ref_terms.proofs.search.KeptCounts.{falls-map, falls-higher, cut-cut, kept-top, kept-low, kept-bound, strip-cut, kept-twice, barriers-twice, strip-twice, strip-later, strip-later-open, strip-side}
use Rattle.ref_terms.proofs.search.CountedMoves.{OutcomeFalls, resolve-falls, later-falls}

module _ (unify : Unification) (program : Program) where
  -- equal events, and states that are equal once stripped
  abbrev pub StripsTo : Move → Move → Type 0
  StripsTo m n = (m.event ≡ n.event) × (strip unify program m.state ≡ strip unify program n.state)

  abbrev S : List Alternative → List Alternative
  S xs = strip_all unify program xs

  abbrev kept : List Alternative → ℕ → ℕ
  kept xs = kept_of unify program xs

  -- a branch with its barriers counted, over other alternatives
  running-strips : (f : ℕ → ℕ) (top : ℕ) (r : Branch) (ys zs : List Alternative) → BarriersFall top r.goals → S ys ≡ S zs → ((n : ℕ) → n ≤ top → kept ys (f n) ≡ kept zs n)
      → strip unify program (Running (with_barriers f r) ys) ≡ strip unify program (Running r zs)
  running-strips f top r ys zs w e same =
      ap₂ Running
      (λ i. record r { goals = (map-after (recounted (kept ys)) (recounted f) (recounted (λ n. kept ys (f n))) (λ g. refl) r.goals ∙ falls-map (λ n. kept ys (f n)) (kept zs) top r.goals w same) i })
      e

  later-strips : (b : Branch) (cs : List Candidate) (xs : List Alternative) → S (with_later b cs xs) ≡ S (later_clauses b cs ∷ xs)
  later-strips b [] xs = refl
  later-strips b (c ∷ cs) xs = refl

  later-kept : (n : ℕ) (b : Branch) (cs : List Candidate) (xs : List Alternative) → n ≤ length xs → kept (with_later b cs xs) n ≡ kept xs n
  later-kept n b [] xs low = refl
  later-kept n b (c ∷ cs) xs low = kept-low unify program n (later_clauses b (c ∷ cs)) xs low

  module _ (xs : List Alternative) where
    abbrev f : ℕ → ℕ
    f = kept xs

    top-same : length (S xs) ≡ f (length xs)
    top-same = sym (kept-top unify program (length xs) xs (omega arith))

    goes-strips : (b c : Branch) → c ≡ with_barriers f b → StripsTo (goes_on c (S xs)) (goes_on b xs)
    goes-strips b c e = (refl, ap (λ (d : Branch). strip unify program (Running d (S xs))) e ∙ ap₂ Running (barriers-twice unify program xs b) (strip-twice unify program xs))

    fails-strips : StripsTo (fails (S xs)) (fails xs)
    fails-strips = (refl, ap (Ended None) (strip-twice unify program xs))

    faults-strips : (e : Fault) → StripsTo (faults e) (faults e)
    faults-strips e = (refl, refl)

    -- with one more alternative of clauses
    later-strips-to : (r b : Branch) (cs ds : List Candidate) → BarriersFall (length xs) r.goals → S (later_clauses (with_barriers f b) ds ∷ S xs) ≡ S (later_clauses b cs ∷ xs)
        → StripsTo (goes_on (with_barriers f r) (with_later (with_barriers f b) ds (S xs))) (goes_on r (with_later b cs xs))
    later-strips-to r b cs ds w e = (
      refl,
      running-strips f (length xs) r (with_later (with_barriers f b) ds (S xs)) (with_later b cs xs) w
          (later-strips (with_barriers f b) ds (S xs) ∙ e ∙ sym (later-strips b cs xs))
          (λ n low. later-kept (f n) (with_barriers f b) ds (S xs) (kept-bound unify program n xs) ∙ kept-twice unify program n xs ∙ sym (later-kept n b cs xs low)),
    )

    module _ (branch : Branch) where
      unified-strips : (a : Answer) → StripsTo (after_unifying (with_barriers f branch) (S xs) a) (after_unifying branch xs a)
      unified-strips (Solved q) = goes-strips (bound_branch q.bindings q.next_var branch) (bound_branch q.bindings q.next_var (with_barriers f branch)) (bound-counted f q.bindings q.next_var branch)
      unified-strips (Clashed k) = fails-strips
      unified-strips (UnifyFaulted e) = (refl, refl)

      questions-strip : (b : Bool) → StripsTo (goes_or_fails b (with_barriers f branch) (S xs)) (goes_or_fails b branch xs)
      questions-strip true = goes-strips branch (with_barriers f branch) refl
      questions-strip false = fails-strips

      compares-strip : (j : Judged Bool) → StripsTo (compares j (with_barriers f branch) (S xs)) (compares j branch xs)
      compares-strip (Good b) = questions-strip b
      compares-strip (Bad e) = faults-strips e

      evaluates-strips : (names : ℕ) (x : Term) (j : Judged ℤ) → StripsTo (evaluates unify names x j (with_barriers f branch) (S xs)) (evaluates unify names x j branch xs)
      evaluates-strips names x (Good z) = unified-strips (unify 0 (record { next_var = branch.next_var; equations = record { names = names; left = x; right = At (Int z) } ∷ []; bindings = [] }))
      evaluates-strips names x (Bad e) = faults-strips e

      enters-strips : (o : Option (Judged Resolved)) → OutcomeFalls (length xs) o → StripsTo (enters (with_barriers f branch) (S xs) (option_map (judged_map (resolved_counted f (λ ds. ds))) o)) (enters branch xs o)
      enters-strips None w = fails-strips
      enters-strips (Some (Good r)) w = later-strips-to r.branch branch r.later r.later w (strip-later unify program xs branch r.later r.later refl refl)
      enters-strips (Some (Bad e)) w = faults-strips e

    module _ (branch : Branch) (goal : Goal) (rest : List Goal) (w : BarriersFall (length xs) (goal ∷ rest)) where
      others : BarriersFall (length xs) rest
      others = falls-higher goal.barrier (length xs) rest w.0 w.1

      calls-strip : (c : ℕ) (o : Option Fault) → StripsTo (calls unify program c (with_barriers f branch) (recounted f goal) (map (recounted f) rest) (S xs) o) (calls unify program c branch goal rest xs o)
      calls-strip c (Some e) = faults-strips e
      calls-strip c None =
          let cs = candidates program c goal.assumptions in
          subst (λ (o : Option (Judged Resolved)). StripsTo (enters (with_barriers f branch) (S xs) o) (calls unify program c branch goal rest xs None))
          (sym (ap (λ (n : ℕ). resolve unify (modes_of program c) (with_barriers f branch) (recounted f goal) (map (recounted f) rest) n cs) top-same ∙ resolve-counted unify f (modes_of program c) branch goal rest (length xs) cs))
          (enters-strips branch (resolve unify (modes_of program c) branch goal rest (length xs) cs) (resolve-falls unify (modes_of program c) branch goal rest (length xs) cs others))

      assumes-strip : (t : Term) (j : Judged (List Assumption)) → StripsTo (assumes (recounted f goal) t (with_barriers f branch) (map (recounted f) rest) (S xs) j) (assumes goal t branch rest xs j)
      assumes-strip t (Good hs) = goes-strips (with_goals (record goal { assumptions = hs ++ goal.assumptions; term = t } ∷ rest) branch) (with_goals (record (recounted f goal) { assumptions = hs ++ goal.assumptions; term = t } ∷ map (recounted f) rest) (with_barriers f branch)) refl
      assumes-strip t (Bad e) = faults-strips e

      suspends-strip : (t : Term) (o : Option (List Term)) → StripsTo (suspends (recounted f goal) t (with_barriers f branch) (map (recounted f) rest) (S xs) o) (suspends goal t branch rest xs o)
      suspends-strip t None = (refl, refl)
      suspends-strip t (Some ks) = (
        refl,
        ap₂ Running (barriers-twice unify program xs (record branch {
          goals = rest;
          store = branch.store ++ record { number = suc branch.declared; names = goal.names; assumptions = goal.assumptions; term = t; keys = ks } ∷ [];
          declared = suc branch.declared;
        })) (strip-twice unify program xs),
      )

      -- cut
      cut-strips : StripsTo (goes_on (with_goals (map (recounted f) rest) (with_barriers f branch)) (cut_to (f goal.barrier) (S xs))) (goes_on (with_goals rest branch) (cut_to goal.barrier xs))
      cut-strips = (
        refl,
        running-strips f goal.barrier (with_goals rest branch) (cut_to (f goal.barrier) (S xs)) (cut_to goal.barrier xs) w.1
            (ap S (sym (strip-cut unify program goal.barrier xs)) ∙ strip-twice unify program (cut_to goal.barrier xs))
            (λ n low.
            let same : kept (cut_to goal.barrier xs) n ≡ f n = ap (λ (ys : List Alternative). length (filter (is_kept unify program) ys)) (cut-cut n goal.barrier xs low) in
            ap (λ (ys : List Alternative). kept ys (f n)) (sym (strip-cut unify program goal.barrier xs))
            ∙ ap (kept (S (cut_to goal.barrier xs))) (sym same)
            ∙ kept-twice unify program n (cut_to goal.barrier xs)),
      )

      kind-strips : (k : GoalKind) → StripsTo (kind_move unify program (with_barriers f branch) (recounted f goal) (map (recounted f) rest) (S xs) k) (kind_move unify program branch goal rest xs k)
      kind-strips Truth = goes-strips (with_goals rest branch) (with_barriers f (with_goals rest branch)) refl
      kind-strips Failing = fails-strips
      kind-strips Cut = cut-strips
      kind-strips (Conjunction s t) = (refl, ap₂ Running (barriers-twice unify program xs (with_goals (goals_at goal (s ∷ t ∷ []) ++ rest) branch)) (strip-twice unify program xs))
      kind-strips (Disjunction s t) =
          let left : Branch = record branch { goals = goals_at goal (s ∷ []) ++ rest; path = LeftSide ∷ branch.path } in
          let right : Branch = record branch { goals = goals_at goal (t ∷ []) ++ rest; path = RightSide ∷ branch.path } in (
            refl,
            running-strips f (length xs) left (other_side (with_barriers f right) ∷ S xs) (other_side right ∷ xs) w
                (strip-side unify program xs right)
                (λ n low. kept-low unify program (f n) (other_side (with_barriers f right)) (S xs) (kept-bound unify program n xs) ∙ kept-twice unify program n xs ∙ sym (kept-low unify program n (other_side right) xs low)),
          )
      kind-strips (Assuming d t) = assumes-strip t (assumptions_of goal.names d)
      kind-strips (ForAll g) = (refl, ap₂ Running (barriers-twice unify program xs (with_goals (record goal { names = suc goal.names; term = apply g (At (Name goal.names)) } ∷ rest) branch)) (strip-twice unify program xs))
      kind-strips (Exists g) = (refl, ap₂ Running (barriers-twice unify program xs (record branch { goals = goals_at goal (applied_whole g (variable_under goal.names branch.next_var) ∷ []) ++ rest; next_var = suc branch.next_var })) (strip-twice unify program xs))
      kind-strips (Suspending t k) = suspends-strip t (items_of k)
      kind-strips (Unifying s t) = unified-strips (with_goals rest branch) (unify 0 (record { next_var = branch.next_var; equations = record { names = goal.names; left = s; right = t } ∷ []; bindings = [] }))
      kind-strips (Comparing s t) = questions-strip (with_goals rest branch) (term_eq s t)
      kind-strips (IsVariable t) = questions-strip (with_goals rest branch) (is_flex t)
      kind-strips (IsName t) = questions-strip (with_goals rest branch) (is_bare_name t)
      kind-strips (Evaluating x e) = evaluates-strips (with_goals rest branch) goal.names x (value_of e)
      kind-strips (Less s t) = compares-strip (with_goals rest branch) (less s t)
      kind-strips (Printing t) = (refl, ap₂ Running (barriers-twice unify program xs (with_goals rest branch)) (strip-twice unify program xs))
      kind-strips (Applying g a r) = unified-strips (with_goals rest branch) (unify 0 (record { next_var = branch.next_var; equations = record { names = goal.names; left = applied_whole g a; right = r } ∷ []; bindings = [] }))
      kind-strips (Atom c ts) = calls-strip c (call_fault program c ts goal.assumptions)
      kind-strips (Wrong e) = faults-strips e

    -- rules don't see barriers
    first-tuple-counted : (branch : Branch) (place : ℕ) (r : Rule) (css : List (List Constraint)) → first_tuple unify (with_barriers f branch) place r css ≡ first_tuple unify branch place r css
    first-tuple-counted branch place r [] = refl
    first-tuple-counted branch place r (cs ∷ css) = ap (or_later (rule_instance unify branch place r cs)) (first-tuple-counted branch place r css)

    first-firing-counted : (branch : Branch) (place : ℕ) (rs : List Rule) → first_firing unify (with_barriers f branch) place rs ≡ first_firing unify branch place rs
    first-firing-counted branch place [] = refl
    first-firing-counted branch place (r ∷ rs) = ap₂ or_later (first-tuple-counted branch place r (tuples (heads_of r) branch.store)) (first-firing-counted branch (suc place) rs)

    fired-counted : (branch : Branch) (x : Firing) → after_firing (with_barriers f branch) (length (S xs)) x ≡ with_barriers f (after_firing branch (length xs) x)
    fired-counted branch x = λ i. record (after_firing branch (length xs) x) { goals = record { names = x.names; assumptions = x.assumptions; barrier = top-same i; term = x.body } ∷ map (recounted f) branch.goals }

    woken-goals : (cs : List Constraint) → map (woken_goal (length (S xs))) cs ≡ map (recounted f) (map (woken_goal (length xs)) cs)
    woken-goals [] = refl
    woken-goals (c ∷ cs) = ap₂ (λ (n : ℕ) (gs : List Goal). woken_goal n c ∷ gs) top-same (woken-goals cs)

    woken-counted : (branch : Branch) (cs : List Constraint) → woken (with_barriers f branch) (length (S xs)) cs ≡ with_barriers f (woken branch (length xs) cs)
    woken-counted branch cs = λ i. record (woken branch (length xs) cs) { goals = (ap (λ (gs : List Goal). gs ++ map (recounted f) branch.goals) (woken-goals cs) ∙ sym (map-append (recounted f) (map (woken_goal (length xs)) cs) branch.goals)) i }

    module _ (branch : Branch) (w : BarriersFall (length xs) branch.goals) where
      -- an answer has no goals
      no-goals : (gs : List Goal) → branch.goals ≡ gs → gs ≡ [] → with_barriers f branch ≡ branch
      no-goals gs e n = λ i. record branch { goals = (ap (map (recounted f)) (e ∙ n) ∙ sym (e ∙ n)) i }

      goal-strips : (gs : List Goal) → branch.goals ≡ gs → BarriersFall (length xs) gs → StripsTo (by_goal unify program (with_barriers f branch) (S xs) (map (recounted f) gs)) (by_goal unify program branch xs gs)
      goal-strips [] e v =
          let same = no-goals [] e refl in
          (ap Answered same, ap₂ (λ (b : Branch) (ys : List Alternative). Ended (Some b) ys) same (strip-twice unify program xs))
      goal-strips (g ∷ gs) e v = kind-strips branch g gs v (goal_kind g.term)

      rule-strips : (o : Option (Judged Firing)) → StripsTo (by_rule unify program (with_barriers f branch) (S xs) o) (by_rule unify program branch xs o)
      rule-strips None = goal-strips branch.goals refl w
      rule-strips (Some (Good x)) = goes-strips (after_firing branch (length xs) x) (after_firing (with_barriers f branch) (length (S xs)) x) (fired-counted branch x)
      rule-strips (Some (Bad e)) = faults-strips e

      waking-strips : (up : List Constraint) → StripsTo (by_waking unify program (with_barriers f branch) (S xs) up) (by_waking unify program branch xs up)
      waking-strips (c ∷ cs) = goes-strips (woken branch (length xs) (c ∷ cs)) (woken (with_barriers f branch) (length (S xs)) (c ∷ cs)) (woken-counted branch (c ∷ cs))
      waking-strips [] = subst (λ (o : Option (Judged Firing)). StripsTo (by_rule unify program (with_barriers f branch) (S xs) o) (by_waking unify program branch xs [])) (sym (first-firing-counted branch 0 program.rules)) (rule-strips (first_firing unify branch 0 program.rules))

      retaken-strips : (cs : List Candidate) (older older' : Move) → StripsTo older' older → (o : Option (Judged Resolved)) → OutcomeFalls (length xs) o
          → StripsTo (retaken (with_barriers f branch) (S xs) older' (option_map (judged_map (resolved_counted f (filter (is_open unify program branch)))) o)) (retaken branch xs older o)
      retaken-strips cs older older' k None v = k
      retaken-strips cs older older' k (Some (Good r)) v = later-strips-to r.branch branch r.later (filter (is_open unify program branch) r.later) v (strip-later-open unify program xs branch r.later)
      retaken-strips cs older older' k (Some (Bad e)) v = faults-strips e

  -- the clauses of an alternative that don't clash
  both-mapped : (f : ℕ → ℕ) (isopen : Candidate → Bool) (o : Option (Judged Resolved)) → option_map (judged_map (resolved_counted f (λ ds. ds))) (option_map (judged_map (λ r. record { branch = r.branch; later = filter isopen r.later })) o) ≡ option_map (judged_map (resolved_counted f (filter isopen))) o
  both-mapped f isopen None = refl
  both-mapped f isopen (Some (Good r)) = refl
  both-mapped f isopen (Some (Bad e)) = refl

  open-later : (branch : Branch) (n : ℕ) (cs : List Candidate) (gs : List Goal) → resolve_later unify program branch n (filter (λ c. not (clashes_at unify program branch gs c)) cs) gs ≡ option_map (judged_map (λ r. record { branch = r.branch; later = filter (λ c. not (clashes_at unify program branch gs c)) r.later })) (resolve_later unify program branch n cs gs)
  open-later branch n cs [] = refl
  open-later branch n cs (g ∷ gs) =
      let modes = constant_modes program (constant_of (head_of g.term)) in
      resolve-open unify modes branch g gs n (λ c. not (clashes_at unify program branch (g ∷ gs) c)) (λ c. ap not (try-clash-same unify modes branch g gs n 0 c)) cs

  counted-later : (f : ℕ → ℕ) (branch : Branch) (n : ℕ) (cs : List Candidate) (gs : List Goal) → resolve_later unify program (with_barriers f branch) (f n) cs (map (recounted f) gs) ≡ option_map (judged_map (resolved_counted f (λ ds. ds))) (resolve_later unify program branch n cs gs)
  counted-later f branch n cs [] = refl
  counted-later f branch n cs (g ∷ gs) = resolve-counted unify f (constant_modes program (constant_of (head_of g.term))) branch g gs n cs

  resolved-none : (A : Type 0) (f : A → A) (o : Option A) → None ≡ option_map f o → o ≡ None
  resolved-none A f None e = refl
  resolved-none A f (Some a) e = absurd (let z : None ≡ Some (f a) = e in cc)

  none-open : (g : Candidate → Bool) (cs : List Candidate) → list_any g cs ≡ false → filter g cs ≡ []
  none-open g [] e = refl
  none-open g (c ∷ cs) e = go (g c) e (none-open g cs)
    where
      go : (b : Bool) → (b || list_any g cs) ≡ false → (list_any g cs ≡ false → filter g cs ≡ []) → cond b (c ∷ filter g cs) (filter g cs) ≡ []
      go true d k = absurd (let z : true ≡ false = d in cc)
      go false d k = k d

  -- where all clauses clash, the older alternatives are retried
  all-clash : (branch : Branch) (n : ℕ) (cs : List Candidate) → list_any (is_open unify program branch) cs ≡ false → resolve_later unify program branch n cs branch.goals ≡ None
  all-clash branch n cs e =
      resolved-none (Judged Resolved) _ (resolve_later unify program branch n cs branch.goals)
      (sym (none branch.goals) ∙ ap (λ (ds : List Candidate). resolve_later unify program branch n ds branch.goals) (sym (none-open (is_open unify program branch) cs e)) ∙ open-later branch n cs branch.goals)
    where
      none : (gs : List Goal) → resolve_later unify program branch n [] gs ≡ None
      none [] = refl
      none (g ∷ gs) = refl

  retry-strips : (xs : List Alternative) → AreCounted xs → StripsTo (retry unify program (S xs)) (retry unify program xs)
  retry-strips [] w = (refl, refl)
  retry-strips (other_side b ∷ xs) w = goes-strips xs b (with_barriers (kept xs) b) refl
  retry-strips (later_clauses b cs ∷ xs) w = go (list_any (is_open unify program b) cs) refl (retry-strips xs w.1)
    where
      go : (k : Bool) → list_any (is_open unify program b) cs ≡ k → StripsTo (retry unify program (S xs)) (retry unify program xs)
          → StripsTo (retry unify program (cond k (stripped unify program xs (later_clauses b cs) ∷ S xs) (S xs))) (retry unify program (later_clauses b cs ∷ xs))
      go true e k =
          let f = kept xs in
          let same : resolve_later unify program (with_barriers f b) (length (S xs)) (filter (is_open unify program b) cs) (map (recounted f) b.goals) ≡ option_map (judged_map (resolved_counted f (filter (is_open unify program b)))) (resolve_later unify program b (length xs) cs b.goals) =
          ap (λ (n : ℕ). resolve_later unify program (with_barriers f b) n (filter (is_open unify program b) cs) (map (recounted f) b.goals)) (top-same xs)
          ∙ counted-later f b (length xs) (filter (is_open unify program b) cs) b.goals
          ∙ ap (option_map (judged_map (resolved_counted f (λ ds. ds)))) (open-later b (length xs) cs b.goals)
          ∙ both-mapped f (is_open unify program b) (resolve_later unify program b (length xs) cs b.goals) in
          subst (λ (o : Option (Judged Resolved)). StripsTo (retaken (with_barriers f b) (S xs) (retry unify program (S xs)) o) (retry unify program (later_clauses b cs ∷ xs))) (sym same)
          (retaken-strips xs b w.0 cs (retry unify program xs) (retry unify program (S xs)) k (resolve_later unify program b (length xs) cs b.goals) (later-falls unify program b (length xs) cs b.goals w.0))
      go false e k = subst (λ (o : Option (Judged Resolved)). StripsTo (retry unify program (S xs)) (retaken b xs (retry unify program xs) o)) (sym (all-clash b (length xs) cs e)) k

  pub next-strips : (s : State) → IsCounted s → StripsTo (next unify program (strip unify program s)) (next unify program s)
  unfolding next
  next-strips (Running b xs) w = waking-strips xs b w.0 (filter is_awake b.store)
  next-strips (Ended b xs) w = retry-strips xs w
  next-strips (Over e) w = (refl, refl)
