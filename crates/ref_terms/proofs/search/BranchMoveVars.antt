-- Moves of a branch, where variables are renamed.
use Rattle.std.proofs.Common.{◌≡◌, ℕ, zero, suc, ◌≤◌, Bool, true, false, ℤ, List, [], ◌∷◌, ◌++◌, map, length, refl, sym, ap₂, subst, Option, Some, None, option_map, arith}
use Rattle.std.proofs.lemmas.List.{map-append}
use Rattle.ref_terms.specs.terms.Term.{Term, Lam, At, App, Head, Con, Int, Bound}
use Rattle.ref_terms.specs.terms.Apply.{opened}
use Rattle.ref_terms.specs.terms.Renamed.{vars, vars_head}
use Rattle.ref_terms.specs.lemmas.VarsLemmas.{apply-vars, fill-vars}
use Rattle.ref_terms.specs.unification.Problem.{Problem, Answer, Solved, Clashed, Faulted as UnifyFaulted}
use Rattle.ref_terms.specs.unification.Renamed.{binding_vars, renamed_answer}
use Rattle.ref_terms.specs.unification.Unification.{Unification}
use Rattle.ref_terms.specs.declared.fault.Fault.{Fault}
use Rattle.ref_terms.specs.search.Fault.{Judged, Good, Bad}
use Rattle.ref_terms.specs.search.Program.{Program, modes_of}
use Rattle.ref_terms.specs.search.Assumption.{Assumption}
use Rattle.ref_terms.specs.search.Branch.{Goal, Constraint, Branch, bound_branch, with_goals}
use Rattle.ref_terms.specs.search.State.{Candidate, Alternative, goes_on, faults}
use Rattle.ref_terms.specs.search.Candidates.{candidates}
use Rattle.ref_terms.specs.search.Resolve.{Resolved, resolve}
use Rattle.ref_terms.specs.search.BranchMove.{fails, applied_whole, goes_or_fails, after_unifying, unifies, evaluates, compares, assumes, suspends, with_later, enters, calls}
use Rattle.ref_terms.specs.search.Renamed.{assumption_vars, goal_vars, constraint_vars, branch_vars}
use Rattle.ref_terms.specs.search.Alike.{IsRenamingAt, RenamedAlternative, Each, RenamedMove}
use Rattle.ref_terms.proofs.search.AssumptionVars.{clauses_vars}
use Rattle.ref_terms.proofs.search.BranchVars.{bound-branch-vars}
use Rattle.ref_terms.proofs.search.CandidateVars.{candidates-vars}
use Rattle.ref_terms.proofs.search.ResolveVars.{RenamedResolved, resolve-vars}
use Rattle.ref_terms.proofs.search.AlikeFacts.{branch-renamed, later-renamed, each-length}
use Rattle.ref_terms.proofs.search.Fair.{IsFair, AnswerGrown, Outcome, unfrozen}

opened-vars : (p : ℕ → ℕ) (a : Term) (h : Head) → vars p (opened a h) ≡ opened (vars p a) (vars_head p h)
opened-vars p a (Bound zero) = refl
opened-vars p a (Bound (suc n)) = refl
opened-vars p a (Con c) = refl
opened-vars p a (Int c) = refl
opened-vars p a _ = refl

pub applied_whole-vars : (p : ℕ → ℕ) (f a : Term) → applied_whole (vars p f) (vars p a) ≡ vars p (applied_whole f a)
applied_whole-vars p (Lam b) a = sym (fill-vars p (opened a) (opened (vars p a)) (opened-vars p a) b)
applied_whole-vars p (At h) a = sym (apply-vars p (At h) a)
applied_whole-vars p (App f b) a = sym (apply-vars p (App f b) a)

module _ (xs ys : List Alternative) (w : Each RenamedAlternative xs ys) where
  pub fails-alike : RenamedMove (fails xs) (fails ys)
  fails-alike = (refl, (tt, w))

  pub faults-alike : (e : Fault) → RenamedMove (faults e) (faults e)
  faults-alike e = (refl, refl)

  module _ (p : ℕ → ℕ) (branch : Branch) (good : IsRenamingAt branch.next_var p) where
    pub goes-alike : (b c : Branch) → branch.next_var ≤ b.next_var → c ≡ branch_vars p b → RenamedMove (goes_on b xs) (goes_on c ys)
    goes-alike b c low e = (refl, (branch-renamed p branch.next_var good b c low e, w))

    stays : branch.next_var ≤ branch.next_var
    stays = omega arith

    pub goes-or-fails-alike : (b c : Bool) → c ≡ b → RenamedMove (goes_or_fails b branch xs) (goes_or_fails c (branch_vars p branch) ys)
    goes-or-fails-alike true true e = goes-alike branch (branch_vars p branch) stays refl
    goes-or-fails-alike false false e = fails-alike
    goes-or-fails-alike true false e = absurd (let z : false ≡ true = e in cc)
    goes-or-fails-alike false true e = absurd (let z : true ≡ false = e in cc)

    pub compares-alike : (a b : Judged Bool) → b ≡ a → RenamedMove (compares a branch xs) (compares b (branch_vars p branch) ys)
    compares-alike (Good c) b e = subst (λ (z : Judged Bool). RenamedMove (goes_or_fails c branch xs) (compares z (branch_vars p branch) ys)) (sym e) (goes-or-fails-alike c c refl)
    compares-alike (Bad f) b e = subst (λ (z : Judged Bool). RenamedMove (faults f) (compares z (branch_vars p branch) ys)) (sym e) (faults-alike f)

    unified-alike : (a : Answer) → AnswerGrown branch.next_var a → RenamedMove (after_unifying branch xs a) (after_unifying (branch_vars p branch) ys (renamed_answer p a))
    unified-alike (Solved q) low = goes-alike (bound_branch q.bindings q.next_var branch) (bound_branch (map (binding_vars p) q.bindings) (p q.next_var) (branch_vars p branch)) low (sym (bound-branch-vars p branch.next_var (p branch.next_var) good.good q.bindings q.next_var branch))
    unified-alike (Clashed k) low = fails-alike
    unified-alike (UnifyFaulted f) low = (refl, refl)

    module _ (unify : Unification) (fair : IsFair unify) where
      pub unifies-alike : (names : ℕ) (s t : Term) → RenamedMove (unifies unify names s t branch xs) (unifies unify names (vars p s) (vars p t) (branch_vars p branch) ys)
      unifies-alike names s t =
          let problem : Problem = record { next_var = branch.next_var; equations = record { names = names; left = s; right = t } ∷ []; bindings = [] } in
          subst (λ (a : Answer). RenamedMove (after_unifying branch xs (unify 0 problem)) (after_unifying (branch_vars p branch) ys a))
          (sym (fair.renames p 0 0 problem (unfrozen p branch.next_var (p branch.next_var) good.good) good.in_order))
          (unified-alike (unify 0 problem) (fair.grows 0 problem))

      pub evaluates-alike : (names : ℕ) (x : Term) (a b : Judged ℤ) → b ≡ a → RenamedMove (evaluates unify names x a branch xs) (evaluates unify names (vars p x) b (branch_vars p branch) ys)
      evaluates-alike names x (Good z) b e = subst (λ (j : Judged ℤ). RenamedMove (evaluates unify names x (Good z) branch xs) (evaluates unify names (vars p x) j (branch_vars p branch) ys)) (sym e) (unifies-alike names x (At (Int z)))
      evaluates-alike names x (Bad f) b e = subst (λ (j : Judged ℤ). RenamedMove (faults f) (evaluates unify names (vars p x) j (branch_vars p branch) ys)) (sym e) (faults-alike f)

      enters-alike : (o q : Option (Judged Resolved)) → Outcome (RenamedResolved p branch.next_var) o q → RenamedMove (enters branch xs o) (enters (branch_vars p branch) ys q)
      enters-alike None None r = fails-alike
      enters-alike (Some (Bad e)) (Some (Bad f)) r = subst (λ (g : Fault). RenamedMove (faults e) (faults g)) r (faults-alike e)
      enters-alike (Some (Good r)) (Some (Good s)) v =
          subst (λ (cs : List Candidate). RenamedMove (goes_on r.branch (with_later branch r.later xs)) (goes_on s.branch (with_later (branch_vars p branch) cs ys))) (sym v.2)
          (refl, (branch-renamed p branch.next_var good r.branch s.branch v.0 v.1, later-renamed p branch.next_var good branch stays r.later xs ys w))
      enters-alike None (Some q) r = elim r [ ]
      enters-alike (Some (Good a)) None r = elim r [ ]
      enters-alike (Some (Good a)) (Some (Bad e)) r = elim r [ ]
      enters-alike (Some (Bad a)) None r = elim r [ ]
      enters-alike (Some (Bad a)) (Some (Good e)) r = elim r [ ]

      pub calls-alike : (program : Program) (c : ℕ) (goal : Goal) (rest : List Goal) (o q : Option Fault) → q ≡ o
          → RenamedMove (calls unify program c branch goal rest xs o) (calls unify program c (branch_vars p branch) (goal_vars p goal) (map (goal_vars p) rest) ys q)
      calls-alike program c goal rest (Some e) q d = subst (λ (z : Option Fault). RenamedMove (faults e) (calls unify program c (branch_vars p branch) (goal_vars p goal) (map (goal_vars p) rest) ys z)) (sym d) (faults-alike e)
      calls-alike program c goal rest None q d =
          subst (λ (z : Option Fault). RenamedMove (calls unify program c branch goal rest xs None) (calls unify program c (branch_vars p branch) (goal_vars p goal) (map (goal_vars p) rest) ys z)) (sym d)
          (subst (λ (z : Option (Judged Resolved)). RenamedMove (calls unify program c branch goal rest xs None) (enters (branch_vars p branch) ys z))
          (sym (ap₂ (λ (n : ℕ) (cs : List Candidate). resolve unify (modes_of program c) (branch_vars p branch) (goal_vars p goal) (map (goal_vars p) rest) n cs) (each-length RenamedAlternative xs ys w) (candidates-vars p program c goal.assumptions)))
          (enters-alike _ _ (resolve-vars unify fair p branch good (modes_of program c) goal rest (length xs) (candidates program c goal.assumptions))))

    pub assumes-alike : (goal : Goal) (t : Term) (rest : List Goal) (a b : Judged (List Assumption)) → b ≡ clauses_vars p a
        → RenamedMove (assumes goal t branch rest xs a) (assumes (goal_vars p goal) (vars p t) (branch_vars p branch) (map (goal_vars p) rest) ys b)
    assumes-alike goal t rest (Good hs) b e =
        subst (λ (j : Judged (List Assumption)). RenamedMove (assumes goal t branch rest xs (Good hs)) (assumes (goal_vars p goal) (vars p t) (branch_vars p branch) (map (goal_vars p) rest) ys j)) (sym e)
        (goes-alike (with_goals (record goal { assumptions = hs ++ goal.assumptions; term = t } ∷ rest) branch)
        (with_goals (record (goal_vars p goal) { assumptions = map (assumption_vars p) hs ++ map (assumption_vars p) goal.assumptions; term = vars p t } ∷ map (goal_vars p) rest) (branch_vars p branch))
        stays
        (λ i. record (branch_vars p branch) { goals = record (goal_vars p goal) { assumptions = sym (map-append (assumption_vars p) hs goal.assumptions) i; term = vars p t } ∷ map (goal_vars p) rest }))
    assumes-alike goal t rest (Bad f) b e = subst (λ (j : Judged (List Assumption)). RenamedMove (faults f) (assumes (goal_vars p goal) (vars p t) (branch_vars p branch) (map (goal_vars p) rest) ys j)) (sym e) (faults-alike f)

    pub suspends-alike : (goal : Goal) (t : Term) (rest : List Goal) (o q : Option (List Term)) → q ≡ option_map (map (vars p)) o
        → RenamedMove (suspends goal t branch rest xs o) (suspends (goal_vars p goal) (vars p t) (branch_vars p branch) (map (goal_vars p) rest) ys q)
    suspends-alike goal t rest None q e = subst (λ (z : Option (List Term)). RenamedMove (suspends goal t branch rest xs None) (suspends (goal_vars p goal) (vars p t) (branch_vars p branch) (map (goal_vars p) rest) ys z)) (sym e) (refl, refl)
    suspends-alike goal t rest (Some keys) q e =
        let c : Constraint = record { number = suc branch.declared; names = goal.names; assumptions = goal.assumptions; term = t; keys = keys } in
        subst (λ (z : Option (List Term)). RenamedMove (suspends goal t branch rest xs (Some keys)) (suspends (goal_vars p goal) (vars p t) (branch_vars p branch) (map (goal_vars p) rest) ys z)) (sym e)
        (goes-alike (record branch { goals = rest; store = branch.store ++ c ∷ []; declared = suc branch.declared })
        (record (branch_vars p branch) { goals = map (goal_vars p) rest; store = map (constraint_vars p) branch.store ++ constraint_vars p c ∷ []; declared = suc branch.declared })
        stays
        (λ i. record (branch_vars p branch) { goals = map (goal_vars p) rest; store = sym (map-append (constraint_vars p) branch.store (c ∷ [])) i; declared = suc branch.declared }))
