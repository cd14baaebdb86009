-- The kinds of goals, with their faults.
use Rattle.std.specs.Prelude.{ℕ, List, [], ◌∷◌, Option, Some, None}
use Rattle.ref_terms.specs.terms.Term.{Term, Con}
use Rattle.ref_terms.specs.unification.Shape.{Shape, Abstraction, Redex as RedexShape, Rigid, Flex, shape}
use Rattle.ref_terms.specs.search.Reserved.{Reserved, True_word, Fail_word, Cut_word, And_word, Or_word, Implies_word, If_word, Pi_word, Sigma_word, Equal_word, Same_word, Var_word, Name_word, Is_word, Less_word, Print_word, Beta_word, Suspend_word, Nil_word, Cons_word, Plus_word, Minus_word, Times_word, Nonvar_word, Distinct_word, word_of}
use Rattle.ref_terms.specs.declared.fault.Fault.{Fault}
use Rattle.ref_terms.specs.declared.fault.Fault.TheVariants.{FlexGoal, NotGoal, Unknown, Arity, Redex}

-- a goal, by what it does
pub data GoalKind : Type 0 where
  Truth Failing Cut : GoalKind
  Conjunction Disjunction : Term → Term → GoalKind
  -- D => G
  Assuming : Term → Term → GoalKind
  ForAll Exists : Term → GoalKind
  -- declare_constraint G K
  Suspending : Term → Term → GoalKind
  Unifying Comparing Less : Term → Term → GoalKind
  IsVariable IsName Printing : Term → GoalKind
  -- X is E
  Evaluating : Term → Term → GoalKind
  -- beta F A R
  Applying : Term → Term → Term → GoalKind
  -- a constant that isn't reserved, with its arguments
  Atom : ℕ → List Term → GoalKind
  Wrong : Fault → GoalKind

-- a reserved name with its number of arguments; the names of terms are no predicates
abbrev pub reserved_goal : Reserved → List Term → GoalKind
reserved_goal True_word [] = Truth
reserved_goal Fail_word [] = Failing
reserved_goal Cut_word [] = Cut
reserved_goal And_word (a ∷ b ∷ []) = Conjunction a b
reserved_goal Or_word (a ∷ b ∷ []) = Disjunction a b
reserved_goal Implies_word (a ∷ b ∷ []) = Assuming a b
reserved_goal If_word (a ∷ b ∷ []) = Wrong NotGoal
reserved_goal Pi_word (a ∷ []) = ForAll a
reserved_goal Sigma_word (a ∷ []) = Exists a
reserved_goal Equal_word (a ∷ b ∷ []) = Unifying a b
reserved_goal Same_word (a ∷ b ∷ []) = Comparing a b
reserved_goal Var_word (a ∷ []) = IsVariable a
reserved_goal Name_word (a ∷ []) = IsName a
reserved_goal Is_word (a ∷ b ∷ []) = Evaluating a b
reserved_goal Less_word (a ∷ b ∷ []) = Less a b
reserved_goal Print_word (a ∷ []) = Printing a
reserved_goal Beta_word (a ∷ b ∷ c ∷ []) = Applying a b c
reserved_goal Suspend_word (a ∷ b ∷ []) = Suspending a b
reserved_goal Nil_word ts = Wrong Unknown
reserved_goal Cons_word ts = Wrong Unknown
reserved_goal Plus_word ts = Wrong Unknown
reserved_goal Minus_word ts = Wrong Unknown
reserved_goal Times_word ts = Wrong Unknown
reserved_goal _ ts = Wrong Arity

-- a word of tests alone is no reserved name
abbrev pub word_goal : Option Reserved → ℕ → List Term → GoalKind
word_goal None c ts = Atom c ts
word_goal (Some Nonvar_word) c ts = Atom c ts
word_goal (Some Distinct_word) c ts = Atom c ts
word_goal (Some w) c ts = reserved_goal w ts

-- a goal by the shape of its term
abbrev pub shape_goal : Shape → GoalKind
shape_goal Abstraction = Wrong NotGoal
shape_goal RedexShape = Wrong Redex
shape_goal (Flex v ts) = Wrong FlexGoal
shape_goal (Rigid (Con c) ts) = word_goal (word_of c) c ts
shape_goal (Rigid _ ts) = Wrong NotGoal

-- what a goal does; whether an atom's constant is a predicate is asked where it is called
abbrev pub goal_kind : Term → GoalKind
goal_kind t = shape_goal (shape 0 t)
