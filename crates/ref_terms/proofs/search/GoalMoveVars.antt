-- The move of the first goal, where variables are renamed.
use Rattle.std.proofs.Common.{◌≡◌, ℕ, suc, ◌≤◌, List, [], ◌∷◌, ◌++◌, map, refl, sym, ap, ◌∙◌, subst, arith}
use Rattle.std.proofs.lemmas.List.{map-append}
use Rattle.ref_terms.specs.terms.Term.{Term, At, Name}
use Rattle.ref_terms.specs.terms.Apply.{apply}
use Rattle.ref_terms.specs.terms.Renamed.{vars}
use Rattle.ref_terms.specs.lemmas.VarsLemmas.{apply-vars}
use Rattle.ref_terms.specs.unification.Unification.{Unification}
use Rattle.ref_terms.specs.search.Program.{Program}
use Rattle.ref_terms.specs.search.Lists.{items_of}
use Rattle.ref_terms.specs.search.Formula.{GoalKind, Truth, Failing, Cut, Conjunction, Disjunction, Assuming, ForAll, Exists, Suspending, Unifying, Comparing, Less, IsVariable, IsName, Printing, Evaluating, Applying, Atom, Wrong, goal_kind}
use Rattle.ref_terms.specs.search.Assumption.{assumptions_of}
use Rattle.ref_terms.specs.search.Instance.{variable_under}
use Rattle.ref_terms.specs.search.Value.{term_eq, is_flex, is_bare_name}
use Rattle.ref_terms.specs.search.Arithmetic.{less, value_of}
use Rattle.ref_terms.specs.search.Branch.{Goal, Branch, with_goals, goals_at}
use Rattle.ref_terms.specs.search.State.{Alternative, Printed}
use Rattle.ref_terms.specs.search.Candidates.{call_fault}
use Rattle.ref_terms.specs.declared.path.Choice.TheVariants.{Left as LeftSide, Right as RightSide}
use Rattle.ref_terms.specs.search.BranchMove.{applied_whole, unifies}
use Rattle.ref_terms.specs.search.GoalMove.{kind_move, goal_move}
use Rattle.ref_terms.specs.search.Renamed.{goal_vars, branch_vars}
use Rattle.ref_terms.specs.search.Alike.{IsRenamingAt, RenamedAlternative, Each, RenamedMove}
use Rattle.ref_terms.proofs.TextLemmas.{text-vars}
use Rattle.ref_terms.proofs.search.TermVars.{items-vars, is_flex-vars, is_bare_name-vars, term_eq-vars}
use Rattle.ref_terms.proofs.search.ArithmeticVars.{less-vars, value-vars}
use Rattle.ref_terms.proofs.search.FormulaVars.{kind_vars, kind-vars}
use Rattle.ref_terms.proofs.search.AssumptionVars.{assumptions-vars}
use Rattle.ref_terms.proofs.search.InstanceVars.{variable_under-vars}
use Rattle.ref_terms.proofs.search.CandidateVars.{call_fault-vars}
use Rattle.ref_terms.proofs.search.AlikeFacts.{branch-renamed, side-renamed, cut-renamed}
use Rattle.ref_terms.proofs.search.BranchMoveVars.{applied_whole-vars, fails-alike, faults-alike, goes-alike, goes-or-fails-alike, compares-alike, unifies-alike, evaluates-alike, calls-alike, assumes-alike, suspends-alike}
use Rattle.ref_terms.proofs.search.Fair.{IsFair}

module _ (unify : Unification) (fair : IsFair unify) (program : Program) (xs ys : List Alternative) (w : Each RenamedAlternative xs ys) (p : ℕ → ℕ) (branch : Branch) (good : IsRenamingAt branch.next_var p) (goal : Goal) (rest : List Goal) where
  abbrev others : Branch
  others = with_goals rest branch

  stays : branch.next_var ≤ branch.next_var
  stays = omega arith

  -- a goal at the place of this one
  goals-alike : (ts us : List Term) → us ≡ map (vars p) ts → goals_at (goal_vars p goal) us ++ map (goal_vars p) rest ≡ map (goal_vars p) (goals_at goal ts ++ rest)
  goals-alike ts us e = ap (λ (zs : List Term). goals_at (goal_vars p goal) zs ++ map (goal_vars p) rest) e ∙ ap (λ (gs : List Goal). gs ++ map (goal_vars p) rest) (at ts) ∙ sym (map-append (goal_vars p) (goals_at goal ts) rest)
    where
      at : (ts : List Term) → goals_at (goal_vars p goal) (map (vars p) ts) ≡ map (goal_vars p) (goals_at goal ts)
      at [] = refl
      at (t ∷ ts) = ap (λ (gs : List Goal). record (goal_vars p goal) { term = vars p t } ∷ gs) (at ts)

  kind_move-alike : (k : GoalKind) → RenamedMove (kind_move unify program branch goal rest xs k) (kind_move unify program (branch_vars p branch) (goal_vars p goal) (map (goal_vars p) rest) ys (kind_vars p k))
  kind_move-alike Truth = goes-alike xs ys w p branch good others (with_goals (map (goal_vars p) rest) (branch_vars p branch)) stays refl
  kind_move-alike Failing = fails-alike xs ys w
  kind_move-alike Cut = (refl, (branch-renamed p branch.next_var good others (with_goals (map (goal_vars p) rest) (branch_vars p branch)) stays refl, cut-renamed goal.barrier xs ys w))
  kind_move-alike (Conjunction s t) = goes-alike xs ys w p branch good (with_goals (goals_at goal (s ∷ t ∷ []) ++ rest) branch) (with_goals (goals_at (goal_vars p goal) (vars p s ∷ vars p t ∷ []) ++ map (goal_vars p) rest) (branch_vars p branch)) stays refl
  kind_move-alike (Disjunction s t) = (
    refl,
    (
      branch-renamed p branch.next_var good (record branch { goals = goals_at goal (s ∷ []) ++ rest; path = LeftSide ∷ branch.path }) (record (branch_vars p branch) { goals = goals_at (goal_vars p goal) (vars p s ∷ []) ++ map (goal_vars p) rest; path = LeftSide ∷ branch.path }) stays refl,
      (side-renamed p branch.next_var good (record branch { goals = goals_at goal (t ∷ []) ++ rest; path = RightSide ∷ branch.path }) (record (branch_vars p branch) { goals = goals_at (goal_vars p goal) (vars p t ∷ []) ++ map (goal_vars p) rest; path = RightSide ∷ branch.path }) stays refl, w),
    ),
  )
  kind_move-alike (Assuming d t) = assumes-alike xs ys w p branch good goal t rest (assumptions_of goal.names d) (assumptions_of goal.names (vars p d)) (assumptions-vars p goal.names d)
  kind_move-alike (ForAll f) =
      let x = At (Name goal.names) in
      goes-alike xs ys w p branch good (with_goals (record goal { names = suc goal.names; term = apply f x } ∷ rest) branch) (with_goals (record (goal_vars p goal) { names = suc goal.names; term = apply (vars p f) x } ∷ map (goal_vars p) rest) (branch_vars p branch)) stays
      (λ i. record (branch_vars p branch) { goals = record (goal_vars p goal) { names = suc goal.names; term = sym (apply-vars p f x) i } ∷ map (goal_vars p) rest })
  kind_move-alike (Exists f) =
      let v = variable_under goal.names branch.next_var in
      let v' = variable_under goal.names (p branch.next_var) in
      let term : applied_whole (vars p f) v' ≡ vars p (applied_whole f v) = ap (applied_whole (vars p f)) (sym (variable_under-vars p goal.names branch.next_var)) ∙ applied_whole-vars p f v in
      goes-alike xs ys w p branch good (record branch { goals = goals_at goal (applied_whole f v ∷ []) ++ rest; next_var = suc branch.next_var })
      (record (branch_vars p branch) { goals = goals_at (goal_vars p goal) (applied_whole (vars p f) v' ∷ []) ++ map (goal_vars p) rest; next_var = suc (p branch.next_var) })
      (omega arith)
      (λ i. record (branch_vars p branch) { goals = record (goal_vars p goal) { term = term i } ∷ map (goal_vars p) rest; next_var = sym (good.in_order branch.next_var stays) i })
  kind_move-alike (Suspending t k) = suspends-alike xs ys w p branch good goal t rest (items_of k) (items_of (vars p k)) (items-vars p k)
  kind_move-alike (Unifying s t) = unifies-alike xs ys w p others good unify fair goal.names s t
  kind_move-alike (Comparing s t) = goes-or-fails-alike xs ys w p others good (term_eq s t) (term_eq (vars p s) (vars p t)) (term_eq-vars p good.good.one_to_one s t)
  kind_move-alike (IsVariable t) = goes-or-fails-alike xs ys w p others good (is_flex t) (is_flex (vars p t)) (is_flex-vars p t)
  kind_move-alike (IsName t) = goes-or-fails-alike xs ys w p others good (is_bare_name t) (is_bare_name (vars p t)) (is_bare_name-vars p t)
  kind_move-alike (Evaluating x e) = evaluates-alike xs ys w p others good unify fair goal.names x (value_of e) (value_of (vars p e)) (value-vars p e)
  kind_move-alike (Less s t) = compares-alike xs ys w p others good (less s t) (less (vars p s) (vars p t)) (less-vars p s t)
  kind_move-alike (Printing t) = (
    ap (λ (bs : List ℕ). Printed (bs ++ 10 ∷ [])) (sym (text-vars program.symbols p good.good.one_to_one t)),
    (branch-renamed p branch.next_var good others (with_goals (map (goal_vars p) rest) (branch_vars p branch)) stays refl, w),
  )
  kind_move-alike (Applying f a r) =
      subst (λ (z : Term). RenamedMove (unifies unify goal.names (applied_whole f a) r others xs) (unifies unify goal.names z (vars p r) (branch_vars p others) ys)) (sym (applied_whole-vars p f a))
      (unifies-alike xs ys w p others good unify fair goal.names (applied_whole f a) r)
  kind_move-alike (Atom c ts) = calls-alike xs ys w p branch good unify fair program c goal rest (call_fault program c ts goal.assumptions) _ (call_fault-vars p program c ts goal.assumptions)
  kind_move-alike (Wrong e) = faults-alike xs ys w e

  -- the first goal moves alike
  pub goal-alike : RenamedMove (goal_move unify program branch goal rest xs) (goal_move unify program (branch_vars p branch) (goal_vars p goal) (map (goal_vars p) rest) ys)
  goal-alike = subst (λ (k : GoalKind). RenamedMove (goal_move unify program branch goal rest xs) (kind_move unify program (branch_vars p branch) (goal_vars p goal) (map (goal_vars p) rest) ys k)) (sym (kind-vars p goal.term)) (kind_move-alike (goal_kind goal.term))
