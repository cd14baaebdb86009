-- The kinds of goals, where variables are renamed.
use Rattle.std.proofs.Common.{◌≡◌, ℕ, List, [], ◌∷◌, map, refl, ap, ◌∙◌, Option, Some, None}
use Rattle.ref_terms.specs.terms.Term.{Term, Con, Int, Str, Name, Bound, Var}
use Rattle.ref_terms.specs.terms.Renamed.{vars}
use Rattle.ref_terms.specs.unification.Shape.{Shape, Abstraction, Redex, Rigid, Flex, shape}
use Rattle.ref_terms.specs.search.Reserved.{Reserved, True_word, Fail_word, Cut_word, And_word, Or_word, Implies_word, If_word, Pi_word, Sigma_word, Equal_word, Same_word, Var_word, Name_word, Is_word, Less_word, Print_word, Beta_word, Suspend_word, Nil_word, Cons_word, Plus_word, Minus_word, Times_word, Nonvar_word, Distinct_word, word_of}
use Rattle.ref_terms.specs.search.Formula.{GoalKind, Truth, Failing, Cut, Conjunction, Disjunction, Assuming, ForAll, Exists, Suspending, Unifying, Comparing, Less, IsVariable, IsName, Printing, Evaluating, Applying, Atom, Wrong, reserved_goal, word_goal, shape_goal, goal_kind}
use Rattle.ref_terms.proofs.search.TermVars.{shape_vars, shape-vars}

-- a kind with its variables renamed
abbrev pub kind_vars : (ℕ → ℕ) → GoalKind → GoalKind
kind_vars p Truth = Truth
kind_vars p Failing = Failing
kind_vars p Cut = Cut
kind_vars p (Conjunction s t) = Conjunction (vars p s) (vars p t)
kind_vars p (Disjunction s t) = Disjunction (vars p s) (vars p t)
kind_vars p (Assuming d g) = Assuming (vars p d) (vars p g)
kind_vars p (ForAll f) = ForAll (vars p f)
kind_vars p (Exists f) = Exists (vars p f)
kind_vars p (Suspending t k) = Suspending (vars p t) (vars p k)
kind_vars p (Unifying s t) = Unifying (vars p s) (vars p t)
kind_vars p (Comparing s t) = Comparing (vars p s) (vars p t)
kind_vars p (Less s t) = Less (vars p s) (vars p t)
kind_vars p (IsVariable t) = IsVariable (vars p t)
kind_vars p (IsName t) = IsName (vars p t)
kind_vars p (Printing t) = Printing (vars p t)
kind_vars p (Evaluating x e) = Evaluating (vars p x) (vars p e)
kind_vars p (Applying f a r) = Applying (vars p f) (vars p a) (vars p r)
kind_vars p (Atom c ts) = Atom c (map (vars p) ts)
kind_vars p (Wrong e) = Wrong e

module _ (p : ℕ → ℕ) where
  reserved-vars : (w : Reserved) (ts : List Term) → reserved_goal w (map (vars p) ts) ≡ kind_vars p (reserved_goal w ts)
  reserved-vars True_word [] = refl
  reserved-vars True_word (a ∷ ts) = refl
  reserved-vars Fail_word [] = refl
  reserved-vars Fail_word (a ∷ ts) = refl
  reserved-vars Cut_word [] = refl
  reserved-vars Cut_word (a ∷ ts) = refl
  reserved-vars And_word [] = refl
  reserved-vars And_word (a ∷ []) = refl
  reserved-vars And_word (a ∷ b ∷ []) = refl
  reserved-vars And_word (a ∷ b ∷ c ∷ ts) = refl
  reserved-vars Or_word [] = refl
  reserved-vars Or_word (a ∷ []) = refl
  reserved-vars Or_word (a ∷ b ∷ []) = refl
  reserved-vars Or_word (a ∷ b ∷ c ∷ ts) = refl
  reserved-vars Implies_word [] = refl
  reserved-vars Implies_word (a ∷ []) = refl
  reserved-vars Implies_word (a ∷ b ∷ []) = refl
  reserved-vars Implies_word (a ∷ b ∷ c ∷ ts) = refl
  reserved-vars If_word [] = refl
  reserved-vars If_word (a ∷ []) = refl
  reserved-vars If_word (a ∷ b ∷ []) = refl
  reserved-vars If_word (a ∷ b ∷ c ∷ ts) = refl
  reserved-vars Pi_word [] = refl
  reserved-vars Pi_word (a ∷ []) = refl
  reserved-vars Pi_word (a ∷ b ∷ ts) = refl
  reserved-vars Sigma_word [] = refl
  reserved-vars Sigma_word (a ∷ []) = refl
  reserved-vars Sigma_word (a ∷ b ∷ ts) = refl
  reserved-vars Equal_word [] = refl
  reserved-vars Equal_word (a ∷ []) = refl
  reserved-vars Equal_word (a ∷ b ∷ []) = refl
  reserved-vars Equal_word (a ∷ b ∷ c ∷ ts) = refl
  reserved-vars Same_word [] = refl
  reserved-vars Same_word (a ∷ []) = refl
  reserved-vars Same_word (a ∷ b ∷ []) = refl
  reserved-vars Same_word (a ∷ b ∷ c ∷ ts) = refl
  reserved-vars Var_word [] = refl
  reserved-vars Var_word (a ∷ []) = refl
  reserved-vars Var_word (a ∷ b ∷ ts) = refl
  reserved-vars Name_word [] = refl
  reserved-vars Name_word (a ∷ []) = refl
  reserved-vars Name_word (a ∷ b ∷ ts) = refl
  reserved-vars Is_word [] = refl
  reserved-vars Is_word (a ∷ []) = refl
  reserved-vars Is_word (a ∷ b ∷ []) = refl
  reserved-vars Is_word (a ∷ b ∷ c ∷ ts) = refl
  reserved-vars Less_word [] = refl
  reserved-vars Less_word (a ∷ []) = refl
  reserved-vars Less_word (a ∷ b ∷ []) = refl
  reserved-vars Less_word (a ∷ b ∷ c ∷ ts) = refl
  reserved-vars Print_word [] = refl
  reserved-vars Print_word (a ∷ []) = refl
  reserved-vars Print_word (a ∷ b ∷ ts) = refl
  reserved-vars Beta_word [] = refl
  reserved-vars Beta_word (a ∷ []) = refl
  reserved-vars Beta_word (a ∷ b ∷ []) = refl
  reserved-vars Beta_word (a ∷ b ∷ c ∷ []) = refl
  reserved-vars Beta_word (a ∷ b ∷ c ∷ d ∷ ts) = refl
  reserved-vars Suspend_word [] = refl
  reserved-vars Suspend_word (a ∷ []) = refl
  reserved-vars Suspend_word (a ∷ b ∷ []) = refl
  reserved-vars Suspend_word (a ∷ b ∷ c ∷ ts) = refl
  reserved-vars Nil_word ts = refl
  reserved-vars Cons_word ts = refl
  reserved-vars Plus_word ts = refl
  reserved-vars Minus_word ts = refl
  reserved-vars Times_word ts = refl
  reserved-vars Nonvar_word ts = refl
  reserved-vars Distinct_word ts = refl

  word_goal-vars : (w : Option Reserved) (c : ℕ) (ts : List Term) → word_goal w c (map (vars p) ts) ≡ kind_vars p (word_goal w c ts)
  word_goal-vars None c ts = refl
  word_goal-vars (Some Nonvar_word) c ts = refl
  word_goal-vars (Some Distinct_word) c ts = refl
  word_goal-vars (Some True_word) c ts = reserved-vars True_word ts
  word_goal-vars (Some Fail_word) c ts = reserved-vars Fail_word ts
  word_goal-vars (Some Cut_word) c ts = reserved-vars Cut_word ts
  word_goal-vars (Some And_word) c ts = reserved-vars And_word ts
  word_goal-vars (Some Or_word) c ts = reserved-vars Or_word ts
  word_goal-vars (Some Implies_word) c ts = reserved-vars Implies_word ts
  word_goal-vars (Some If_word) c ts = reserved-vars If_word ts
  word_goal-vars (Some Pi_word) c ts = reserved-vars Pi_word ts
  word_goal-vars (Some Sigma_word) c ts = reserved-vars Sigma_word ts
  word_goal-vars (Some Equal_word) c ts = reserved-vars Equal_word ts
  word_goal-vars (Some Same_word) c ts = reserved-vars Same_word ts
  word_goal-vars (Some Var_word) c ts = reserved-vars Var_word ts
  word_goal-vars (Some Name_word) c ts = reserved-vars Name_word ts
  word_goal-vars (Some Is_word) c ts = reserved-vars Is_word ts
  word_goal-vars (Some Less_word) c ts = reserved-vars Less_word ts
  word_goal-vars (Some Print_word) c ts = reserved-vars Print_word ts
  word_goal-vars (Some Beta_word) c ts = reserved-vars Beta_word ts
  word_goal-vars (Some Suspend_word) c ts = reserved-vars Suspend_word ts
  word_goal-vars (Some Nil_word) c ts = reserved-vars Nil_word ts
  word_goal-vars (Some Cons_word) c ts = reserved-vars Cons_word ts
  word_goal-vars (Some Plus_word) c ts = reserved-vars Plus_word ts
  word_goal-vars (Some Minus_word) c ts = reserved-vars Minus_word ts
  word_goal-vars (Some Times_word) c ts = reserved-vars Times_word ts

  shape_goal-vars : (s : Shape) → shape_goal (shape_vars p s) ≡ kind_vars p (shape_goal s)
  shape_goal-vars Abstraction = refl
  shape_goal-vars Redex = refl
  shape_goal-vars (Flex v ts) = refl
  shape_goal-vars (Rigid (Con c) ts) = word_goal-vars (word_of c) c ts
  shape_goal-vars (Rigid (Int c) ts) = refl
  shape_goal-vars (Rigid (Str c) ts) = refl
  shape_goal-vars (Rigid (Name c) ts) = refl
  shape_goal-vars (Rigid (Bound c) ts) = refl
  shape_goal-vars (Rigid (Var c) ts) = refl

  pub kind-vars : (t : Term) → goal_kind (vars p t) ≡ kind_vars p (goal_kind t)
  kind-vars t = ap shape_goal (shape-vars p t) ∙ shape_goal-vars (shape 0 t)
