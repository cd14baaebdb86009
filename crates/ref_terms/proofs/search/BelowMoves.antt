-- A move brings no variable from the next one on into use.
use Rattle.std.proofs.Common.{◌≡◌, ℕ, zero, suc, ◌+◌, ◌-◌, ◌≤◌, ◌<◌, Bool, true, false, cond, not, ℤ, List, [], ◌∷◌, ◌++◌, map, length, drop, filter, refl, sym, ap, subst, Option, Some, None, arith}
use Rattle.ref_terms.specs.terms.Term.{Term, At, Head, Con, Int, Str, Name, Bound, Var}
use Rattle.ref_terms.specs.terms.Apply.{apply}
use Rattle.ref_terms.specs.unification.Shape.{Shape, Abstraction, Redex, Rigid, Flex, shape}
use Rattle.ref_terms.specs.unification.Closing.{up_from, names_below}
use Rattle.ref_terms.specs.unification.Problem.{Problem, Answer, Solved, Clashed, Faulted as UnifyFaulted}
use Rattle.ref_terms.specs.unification.Unification.{unify}
use Rattle.ref_terms.specs.declared.fault.Fault.{Fault}
use Rattle.ref_terms.specs.search.Reserved.{Reserved, True_word, Fail_word, Cut_word, And_word, Or_word, Implies_word, If_word, Pi_word, Sigma_word, Equal_word, Same_word, Var_word, Name_word, Is_word, Less_word, Print_word, Beta_word, Suspend_word, Nil_word, Cons_word, Plus_word, Minus_word, Times_word, Nonvar_word, Distinct_word, word_of}
use Rattle.ref_terms.specs.search.Fault.{Judged, Good, Bad}
use Rattle.ref_terms.specs.search.Program.{Program, Query, QueryVar, modes_of}
use Rattle.ref_terms.specs.search.Assumption.{Assumption, assumptions_of}
use Rattle.ref_terms.specs.search.Lists.{items_of}
use Rattle.ref_terms.specs.search.Value.{term_eq, is_flex, is_bare_name}
use Rattle.ref_terms.specs.search.Arithmetic.{less, value_of}
use Rattle.ref_terms.specs.search.Formula.{GoalKind, Truth, Failing, Cut, Conjunction, Disjunction, Assuming, ForAll, Exists, Suspending, Unifying, Comparing, Less, IsVariable, IsName, Printing, Evaluating, Applying, Atom, Wrong, reserved_goal, word_goal, shape_goal, goal_kind}
use Rattle.ref_terms.specs.search.Instance.{variable_under, instance}
use Rattle.ref_terms.specs.search.Branch.{Goal, Constraint, Branch, with_goals}
use Rattle.ref_terms.specs.search.State.{Candidate, Alternative, later_clauses, other_side, State, Running, Ended, Over, Move}
use Rattle.ref_terms.specs.search.Candidates.{candidates, call_fault}
use Rattle.ref_terms.specs.search.Resolve.{Resolved, resolve}
use Rattle.ref_terms.specs.search.BranchMove.{cut_to, applied_whole, goes_or_fails, after_unifying, evaluates, compares, assumes, suspends, with_later, enters, calls}
use Rattle.ref_terms.specs.search.GoalMove.{kind_move}
use Rattle.ref_terms.specs.search.RuleInstance.{Firing}
use Rattle.ref_terms.specs.search.FirstRule.{first_firing}
use Rattle.ref_terms.specs.search.Next.{is_awake, woken_goal, by_goal, by_rule, by_waking, resolve_later, retaken, retry, next}
use Rattle.ref_terms.specs.search.Events.{first_state}
use Rattle.ref_terms.specs.search.Used.{Every, UsesBelow, AssumptionBelow, GoalBelow, ConstraintBelow, BranchBelow}
use Rattle.ref_terms.specs.search.Below.{ProgramBelow, QueryBelow, CandidateBelow, AlternativeBelow, StateBelow}
use Rattle.ref_terms.proofs.search.TouchedLemmas.{every-append}
use Rattle.ref_terms.proofs.search.BelowTerms.{every-filter, uses-more, uses-apply, uses-whole, uses-variable, uses-under, uses-instance, ShapeBelow, uses-shape, ItemsBelow, uses-items}
use Rattle.ref_terms.proofs.search.BelowUnify.{AnswerBelow, unify-below}
use Rattle.ref_terms.proofs.search.BelowClauses.{AllBelow, all-more, goals-more, branch-bound, ReadBelow, assumptions-below, candidates-below, OutcomeBelow, resolve-below, later-below}
use Rattle.ref_terms.proofs.search.BelowRules.{FiredBelow, firing-below, after-firing-below}

-- the terms of a goal from which something is made
abbrev KindBelow : ℕ → GoalKind → Type 0
KindBelow q (Conjunction s t) = UsesBelow q s × UsesBelow q t
KindBelow q (Disjunction s t) = UsesBelow q s × UsesBelow q t
KindBelow q (Assuming s t) = UsesBelow q s × UsesBelow q t
KindBelow q (ForAll f) = UsesBelow q f
KindBelow q (Exists f) = UsesBelow q f
KindBelow q (Suspending s t) = UsesBelow q s × UsesBelow q t
KindBelow q (Unifying s t) = UsesBelow q s × UsesBelow q t
KindBelow q (Evaluating s t) = UsesBelow q s
KindBelow q (Applying f a r) = UsesBelow q f × UsesBelow q a × UsesBelow q r
KindBelow q Truth = Unit {0}
KindBelow q Failing = Unit {0}
KindBelow q Cut = Unit {0}
KindBelow q (Comparing s t) = Unit {0}
KindBelow q (Less s t) = Unit {0}
KindBelow q (IsVariable t) = Unit {0}
KindBelow q (IsName t) = Unit {0}
KindBelow q (Printing t) = Unit {0}
KindBelow q (Atom c ts) = Unit {0}
KindBelow q (Wrong e) = Unit {0}

module _ (q : ℕ) where
  reserved-below : (w : Reserved) (ts : List Term) → Every (UsesBelow q) ts → KindBelow q (reserved_goal w ts)
  reserved-below True_word [] u = tt
  reserved-below True_word (a ∷ ts) u = tt
  reserved-below Fail_word [] u = tt
  reserved-below Fail_word (a ∷ ts) u = tt
  reserved-below Cut_word [] u = tt
  reserved-below Cut_word (a ∷ ts) u = tt
  reserved-below And_word [] u = tt
  reserved-below And_word (a ∷ []) u = tt
  reserved-below And_word (a ∷ b ∷ []) u = (u.0, u.1.0)
  reserved-below And_word (a ∷ b ∷ c ∷ ts) u = tt
  reserved-below Or_word [] u = tt
  reserved-below Or_word (a ∷ []) u = tt
  reserved-below Or_word (a ∷ b ∷ []) u = (u.0, u.1.0)
  reserved-below Or_word (a ∷ b ∷ c ∷ ts) u = tt
  reserved-below Implies_word [] u = tt
  reserved-below Implies_word (a ∷ []) u = tt
  reserved-below Implies_word (a ∷ b ∷ []) u = (u.0, u.1.0)
  reserved-below Implies_word (a ∷ b ∷ c ∷ ts) u = tt
  reserved-below If_word [] u = tt
  reserved-below If_word (a ∷ []) u = tt
  reserved-below If_word (a ∷ b ∷ []) u = tt
  reserved-below If_word (a ∷ b ∷ c ∷ ts) u = tt
  reserved-below Pi_word [] u = tt
  reserved-below Pi_word (a ∷ []) u = u.0
  reserved-below Pi_word (a ∷ b ∷ ts) u = tt
  reserved-below Sigma_word [] u = tt
  reserved-below Sigma_word (a ∷ []) u = u.0
  reserved-below Sigma_word (a ∷ b ∷ ts) u = tt
  reserved-below Equal_word [] u = tt
  reserved-below Equal_word (a ∷ []) u = tt
  reserved-below Equal_word (a ∷ b ∷ []) u = (u.0, u.1.0)
  reserved-below Equal_word (a ∷ b ∷ c ∷ ts) u = tt
  reserved-below Same_word [] u = tt
  reserved-below Same_word (a ∷ []) u = tt
  reserved-below Same_word (a ∷ b ∷ []) u = tt
  reserved-below Same_word (a ∷ b ∷ c ∷ ts) u = tt
  reserved-below Var_word [] u = tt
  reserved-below Var_word (a ∷ []) u = tt
  reserved-below Var_word (a ∷ b ∷ ts) u = tt
  reserved-below Name_word [] u = tt
  reserved-below Name_word (a ∷ []) u = tt
  reserved-below Name_word (a ∷ b ∷ ts) u = tt
  reserved-below Is_word [] u = tt
  reserved-below Is_word (a ∷ []) u = tt
  reserved-below Is_word (a ∷ b ∷ []) u = u.0
  reserved-below Is_word (a ∷ b ∷ c ∷ ts) u = tt
  reserved-below Less_word [] u = tt
  reserved-below Less_word (a ∷ []) u = tt
  reserved-below Less_word (a ∷ b ∷ []) u = tt
  reserved-below Less_word (a ∷ b ∷ c ∷ ts) u = tt
  reserved-below Print_word [] u = tt
  reserved-below Print_word (a ∷ []) u = tt
  reserved-below Print_word (a ∷ b ∷ ts) u = tt
  reserved-below Beta_word [] u = tt
  reserved-below Beta_word (a ∷ []) u = tt
  reserved-below Beta_word (a ∷ b ∷ []) u = tt
  reserved-below Beta_word (a ∷ b ∷ c ∷ []) u = (u.0, u.1.0, u.1.1.0)
  reserved-below Beta_word (a ∷ b ∷ c ∷ d ∷ ts) u = tt
  reserved-below Suspend_word [] u = tt
  reserved-below Suspend_word (a ∷ []) u = tt
  reserved-below Suspend_word (a ∷ b ∷ []) u = (u.0, u.1.0)
  reserved-below Suspend_word (a ∷ b ∷ c ∷ ts) u = tt
  reserved-below Nil_word ts u = tt
  reserved-below Cons_word ts u = tt
  reserved-below Plus_word ts u = tt
  reserved-below Minus_word ts u = tt
  reserved-below Times_word ts u = tt
  reserved-below Nonvar_word ts u = tt
  reserved-below Distinct_word ts u = tt

  word-below : (o : Option Reserved) (c : ℕ) (ts : List Term) → Every (UsesBelow q) ts → KindBelow q (word_goal o c ts)
  word-below None c ts u = tt
  word-below (Some Nonvar_word) c ts u = tt
  word-below (Some Distinct_word) c ts u = tt
  word-below (Some True_word) c ts u = reserved-below True_word ts u
  word-below (Some Fail_word) c ts u = reserved-below Fail_word ts u
  word-below (Some Cut_word) c ts u = reserved-below Cut_word ts u
  word-below (Some And_word) c ts u = reserved-below And_word ts u
  word-below (Some Or_word) c ts u = reserved-below Or_word ts u
  word-below (Some Implies_word) c ts u = reserved-below Implies_word ts u
  word-below (Some If_word) c ts u = reserved-below If_word ts u
  word-below (Some Pi_word) c ts u = reserved-below Pi_word ts u
  word-below (Some Sigma_word) c ts u = reserved-below Sigma_word ts u
  word-below (Some Equal_word) c ts u = reserved-below Equal_word ts u
  word-below (Some Same_word) c ts u = reserved-below Same_word ts u
  word-below (Some Var_word) c ts u = reserved-below Var_word ts u
  word-below (Some Name_word) c ts u = reserved-below Name_word ts u
  word-below (Some Is_word) c ts u = reserved-below Is_word ts u
  word-below (Some Less_word) c ts u = reserved-below Less_word ts u
  word-below (Some Print_word) c ts u = reserved-below Print_word ts u
  word-below (Some Beta_word) c ts u = reserved-below Beta_word ts u
  word-below (Some Suspend_word) c ts u = reserved-below Suspend_word ts u
  word-below (Some Nil_word) c ts u = reserved-below Nil_word ts u
  word-below (Some Cons_word) c ts u = reserved-below Cons_word ts u
  word-below (Some Plus_word) c ts u = reserved-below Plus_word ts u
  word-below (Some Minus_word) c ts u = reserved-below Minus_word ts u
  word-below (Some Times_word) c ts u = reserved-below Times_word ts u

  kind-of-shape : (s : Shape) → ShapeBelow q s → KindBelow q (shape_goal s)
  kind-of-shape Abstraction u = tt
  kind-of-shape Redex u = tt
  kind-of-shape (Flex v ts) u = tt
  kind-of-shape (Rigid (Con c) ts) u = word-below (word_of c) c ts u
  kind-of-shape (Rigid (Int c) ts) u = tt
  kind-of-shape (Rigid (Str c) ts) u = tt
  kind-of-shape (Rigid (Name c) ts) u = tt
  kind-of-shape (Rigid (Bound c) ts) u = tt
  kind-of-shape (Rigid (Var c) ts) u = tt

  kind-of-goal : (t : Term) → UsesBelow q t → KindBelow q (goal_kind t)
  kind-of-goal t w = kind-of-shape (shape 0 t) (uses-shape 0 q t w)

below-drop : (k : ℕ) (xs : List Alternative) → Every AlternativeBelow xs → Every AlternativeBelow (drop k xs)
below-drop zero xs w = w
below-drop (suc k) [] w = tt
below-drop (suc k) (x ∷ xs) w = below-drop k xs w.1

below-later : (b : Branch) (cs : List Candidate) (xs : List Alternative) → BranchBelow b → Every (CandidateBelow b.next_var) cs → Every AlternativeBelow xs → Every AlternativeBelow (with_later b cs xs)
below-later b [] xs w u v = v
below-later b (c ∷ cs) xs w u v = ((w, u), v)

woken-below : (q n : ℕ) (cs : List Constraint) (rest : List Goal) → Every (ConstraintBelow q) cs → Every (GoalBelow q) rest → Every (GoalBelow q) (map (woken_goal n) cs ++ rest)
woken-below q n [] rest u w = w
woken-below q n (c ∷ cs) rest u w = ((u.0.0, u.0.1), woken-below q n cs rest u.1 w)

module _ (program : Program) (good : ProgramBelow program) (xs : List Alternative) (old : Every AlternativeBelow xs) where
  module _ (branch : Branch) (w : BranchBelow branch) where
    enters-below : (o : Option (Judged Resolved)) → OutcomeBelow branch.next_var o → StateBelow (enters branch xs o).state
    enters-below None v = old
    enters-below (Some (Good r)) v = (v.0, below-later branch r.later xs w v.1 old)
    enters-below (Some (Bad e)) v = tt

    retaken-below : (older : Move) → StateBelow older.state → (o : Option (Judged Resolved)) → OutcomeBelow branch.next_var o → StateBelow (retaken branch xs older o).state
    retaken-below older k None v = k
    retaken-below older k (Some (Good r)) v = (v.0, below-later branch r.later xs w v.1 old)
    retaken-below older k (Some (Bad e)) v = tt

    questions-below : (b : Bool) → StateBelow (goes_or_fails b branch xs).state
    questions-below true = (w, old)
    questions-below false = old

    compares-below : (j : Judged Bool) → StateBelow (compares j branch xs).state
    compares-below (Good b) = questions-below b
    compares-below (Bad e) = tt

    unified-below : (a : Answer) → AnswerBelow branch.next_var a → StateBelow (after_unifying branch xs a).state
    unified-below (Solved p) k = (branch-bound p.next_var p.bindings k.2 branch (all-more branch.next_var p.next_var k.0 branch w), old)
    unified-below (Clashed c) k = old
    unified-below (UnifyFaulted e) k = tt

    unifies-below : (names : ℕ) (s t : Term) → UsesBelow branch.next_var s → UsesBelow branch.next_var t
        → StateBelow (after_unifying branch xs (unify 0 (record { next_var = branch.next_var; equations = record { names = names; left = s; right = t } ∷ []; bindings = [] }))).state
    unifies-below names s t u k =
        let problem : Problem = record { next_var = branch.next_var; equations = record { names = names; left = s; right = t } ∷ []; bindings = [] } in
        unified-below (unify 0 problem) (unify-below 0 branch.next_var problem (omega arith, ((u, k), tt), tt))

    evaluates-below : (names : ℕ) (x : Term) (j : Judged ℤ) → UsesBelow branch.next_var x → StateBelow (evaluates unify names x j branch xs).state
    evaluates-below names x (Good z) u = unifies-below names x (At (Int z)) u (λ v h. refl)
    evaluates-below names x (Bad e) u = tt

  module _ (branch : Branch) (goal : Goal) (rest : List Goal) (all : BranchBelow branch) (one : GoalBelow branch.next_var goal) (others : Every (GoalBelow branch.next_var) rest) where
    left : BranchBelow (with_goals rest branch)
    left = (others, all.1, all.2)

    calls-below : (c : ℕ) (o : Option Fault) → StateBelow (calls unify program c branch goal rest xs o).state
    calls-below c (Some e) = tt
    calls-below c None = enters-below branch all (resolve unify (modes_of program c) branch goal rest (length xs) (candidates program c goal.assumptions))
        (resolve-below (modes_of program c) branch goal rest (length xs) all one others (candidates program c goal.assumptions) (candidates-below branch.next_var program c goal.assumptions good.0 one.0))

    assumes-below : (t : Term) → UsesBelow branch.next_var t → (j : Judged (List Assumption)) → ReadBelow branch.next_var j → StateBelow (assumes goal t branch rest xs j).state
    assumes-below t u (Good hs) k = ((((every-append (AssumptionBelow branch.next_var) hs goal.assumptions k one.0, u), others), all.1, all.2), old)
    assumes-below t u (Bad e) k = tt

    suspends-below : (t : Term) → UsesBelow branch.next_var t → (o : Option (List Term)) → ItemsBelow branch.next_var o → StateBelow (suspends goal t branch rest xs o).state
    suspends-below t u None k = tt
    suspends-below t u (Some ks) k =
        let c : Constraint = record { number = suc branch.declared; names = goal.names; assumptions = goal.assumptions; term = t; keys = ks } in
        ((others, every-append (ConstraintBelow branch.next_var) branch.store (c ∷ []) all.1 ((one.0, u, k), tt), all.2), old)

    kind-below : (k : GoalKind) → KindBelow branch.next_var k → StateBelow (kind_move unify program branch goal rest xs k).state
    kind-below Truth u = (left, old)
    kind-below Failing u = old
    kind-below Cut u = (left, below-drop (length xs - goal.barrier) xs old)
    kind-below (Conjunction s t) u = ((((one.0, u.0), ((one.0, u.1), others)), all.1, all.2), old)
    kind-below (Disjunction s t) u = ((((one.0, u.0), others), all.1, all.2), ((((one.0, u.1), others), all.1, all.2), old))
    kind-below (Assuming d t) u = assumes-below t u.1 (assumptions_of goal.names d) (assumptions-below branch.next_var goal.names d u.0)
    kind-below (ForAll f) u = ((((one.0, uses-apply branch.next_var f (At (Name goal.names)) u (λ v h. refl)), others), all.1, all.2), old)
    kind-below (Exists f) u =
        let q = branch.next_var in
        let more : q ≤ suc q = omega arith in
        let z : AllBelow (suc q) (with_goals (goal ∷ rest) branch) = all-more q (suc q) more (with_goals (goal ∷ rest) branch) ((one, others), all.1, all.2) in
        ((((z.0.0.0, uses-whole (suc q) f (variable_under goal.names q) (uses-more q (suc q) more f u) (uses-under (suc q) goal.names q (omega arith))), z.0.1), z.1, z.2), old)
    kind-below (Suspending t k) u = suspends-below t u.0 (items_of k) (uses-items branch.next_var k u.1)
    kind-below (Unifying s t) u = unifies-below (with_goals rest branch) left goal.names s t u.0 u.1
    kind-below (Comparing s t) u = questions-below (with_goals rest branch) left (term_eq s t)
    kind-below (IsVariable t) u = questions-below (with_goals rest branch) left (is_flex t)
    kind-below (IsName t) u = questions-below (with_goals rest branch) left (is_bare_name t)
    kind-below (Evaluating x e) u = evaluates-below (with_goals rest branch) left goal.names x (value_of e) u
    kind-below (Less s t) u = compares-below (with_goals rest branch) left (less s t)
    kind-below (Printing t) u = (left, old)
    kind-below (Applying f a r) u = unifies-below (with_goals rest branch) left goal.names (applied_whole f a) r (uses-whole branch.next_var f a u.0 u.1) u.2
    kind-below (Atom c ts) u = calls-below c (call_fault program c ts goal.assumptions)
    kind-below (Wrong e) u = tt

  module _ (branch : Branch) (all : BranchBelow branch) where
    goal-below : (gs : List Goal) → Every (GoalBelow branch.next_var) gs → StateBelow (by_goal unify program branch xs gs).state
    goal-below [] w = (all, old)
    goal-below (g ∷ gs) w = kind-below branch g gs all w.0 w.1 (goal_kind g.term) (kind-of-goal branch.next_var g.term w.0.1)

    rule-below : (o : Option (Judged Firing)) → FiredBelow branch.next_var o → StateBelow (by_rule unify program branch xs o).state
    rule-below None w = goal-below branch.goals all.0
    rule-below (Some (Good f)) w = (after-firing-below branch (length xs) f w all, old)
    rule-below (Some (Bad e)) w = tt

    waking-below : (up : List Constraint) → Every (ConstraintBelow branch.next_var) up → StateBelow (by_waking unify program branch xs up).state
    waking-below [] w = rule-below (first_firing unify branch 0 program.rules) (firing-below branch all.1 0 program.rules good.1)
    waking-below (c ∷ cs) w = ((woken-below branch.next_var (length xs) (c ∷ cs) branch.goals w all.0, every-filter (ConstraintBelow branch.next_var) (λ c. not (is_awake c)) branch.store all.1, all.2), old)

retry-below : (program : Program) → ProgramBelow program → (xs : List Alternative) → Every AlternativeBelow xs → StateBelow (retry unify program xs).state
retry-below program good [] w = tt
retry-below program good (other_side b ∷ xs) w = w
retry-below program good (later_clauses b cs ∷ xs) w = retaken-below program good xs w.1 b w.0.0 (retry unify program xs) (retry-below program good xs w.1) (resolve_later unify program b (length xs) cs b.goals)
    (later-below program b (length xs) cs w.0.1 w.0.0 b.goals w.0.0.0)

pub next-below : (program : Program) → ProgramBelow program → (s : State) → StateBelow s → StateBelow (next unify program s).state
unfolding next
next-below program good (Running b xs) w = waking-below program good xs w.1 b w.0 (filter is_awake b.store) (every-filter (ConstraintBelow b.next_var) is_awake b.store w.0.1)
next-below program good (Ended None xs) w = retry-below program good xs w
next-below program good (Ended (Some b) xs) w = retry-below program good xs w.1
next-below program good (Over e) w = tt

-- the variables of the query
own-below : (q k n : ℕ) → k + n ≤ q → Every (UsesBelow q) (map (λ v. At (Var v)) (up_from k n))
own-below q k zero l = tt
own-below q k (suc n) l = (uses-variable q k (omega arith), own-below q (suc k) n (omega arith))

pub first-below : (query : Query) → QueryBelow query → StateBelow (first_state query)
first-below query w =
    let n = length query.variables in
    let e : 0 + n ≡ n = omega arith in
    let t : UsesBelow n (instance 0 0 query.goal) = subst (λ (k : ℕ). UsesBelow k (instance 0 0 query.goal)) e (uses-instance n 0 0 query.goal w) in
    ((((tt, t), tt), tt, own-below n 0 n (omega arith)), tt)
