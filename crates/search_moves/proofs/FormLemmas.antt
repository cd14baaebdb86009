-- An atom's head and its arguments.
use Rattle.std.proofs.Common.{◌≡◌, ℕ, Bool, true, false, cond, nat_lt, List, [], ◌∷◌, ◌++◌, Option, Some, None, refl, sym, ap, ◌∙◌}
use Rattle.ref_terms.specs.terms.Term as term
use Rattle.ref_terms.specs.terms.Term.{Term, Head, Con, Int, Str, Name, Bound, Var}
use Rattle.ref_terms.specs.unification.Spine.{args_of, head_of}
use Rattle.ref_terms.specs.unification.Shape as shapes
use Rattle.ref_terms.specs.unification.Shape.{Shape, shape, headed}
use Rattle.ref_terms.specs.declared.reserved.Reserved.{Reserved}
use Rattle.ref_terms.specs.declared.reserved.Reserved.TheVariants.{True as True_word, Fail as Fail_word, Cut as Cut_word, And as And_word, Or as Or_word, Implies as Implies_word, If as If_word, Pi as Pi_word, Sigma as Sigma_word, Equal as Equal_word, Same as Same_word, Var as Var_word, Name as Name_word, Is as Is_word, Less as Less_word, Print as Print_word, Beta as Beta_word, Suspend as Suspend_word, Nil as Nil_word, Cons as Cons_word, Plus as Plus_word, Minus as Minus_word, Times as Times_word, Nonvar as Nonvar_word, Distinct as Distinct_word}
use Rattle.ref_terms.specs.search.Reserved.{word_of}
use Rattle.ref_terms.specs.search.Formula as formula
use Rattle.ref_terms.specs.search.Formula.{GoalKind, reserved_goal, word_goal, shape_goal, goal_kind}

abbrev is_atom : GoalKind → Bool
is_atom (formula.Atom c ts) = true
is_atom _ = false

-- no reserved name is an atom's
no-atom : (w : Reserved) (ts : List Term) → is_atom (reserved_goal w ts) ≡ false
no-atom True_word [] = refl
no-atom True_word (a ∷ more) = refl
no-atom Fail_word [] = refl
no-atom Fail_word (a ∷ more) = refl
no-atom Cut_word [] = refl
no-atom Cut_word (a ∷ more) = refl
no-atom And_word [] = refl
no-atom And_word (a ∷ []) = refl
no-atom And_word (a ∷ b ∷ []) = refl
no-atom And_word (a ∷ b ∷ c ∷ more) = refl
no-atom Or_word [] = refl
no-atom Or_word (a ∷ []) = refl
no-atom Or_word (a ∷ b ∷ []) = refl
no-atom Or_word (a ∷ b ∷ c ∷ more) = refl
no-atom Implies_word [] = refl
no-atom Implies_word (a ∷ []) = refl
no-atom Implies_word (a ∷ b ∷ []) = refl
no-atom Implies_word (a ∷ b ∷ c ∷ more) = refl
no-atom If_word [] = refl
no-atom If_word (a ∷ []) = refl
no-atom If_word (a ∷ b ∷ []) = refl
no-atom If_word (a ∷ b ∷ c ∷ more) = refl
no-atom Pi_word [] = refl
no-atom Pi_word (a ∷ []) = refl
no-atom Pi_word (a ∷ b ∷ more) = refl
no-atom Sigma_word [] = refl
no-atom Sigma_word (a ∷ []) = refl
no-atom Sigma_word (a ∷ b ∷ more) = refl
no-atom Equal_word [] = refl
no-atom Equal_word (a ∷ []) = refl
no-atom Equal_word (a ∷ b ∷ []) = refl
no-atom Equal_word (a ∷ b ∷ c ∷ more) = refl
no-atom Same_word [] = refl
no-atom Same_word (a ∷ []) = refl
no-atom Same_word (a ∷ b ∷ []) = refl
no-atom Same_word (a ∷ b ∷ c ∷ more) = refl
no-atom Var_word [] = refl
no-atom Var_word (a ∷ []) = refl
no-atom Var_word (a ∷ b ∷ more) = refl
no-atom Name_word [] = refl
no-atom Name_word (a ∷ []) = refl
no-atom Name_word (a ∷ b ∷ more) = refl
no-atom Is_word [] = refl
no-atom Is_word (a ∷ []) = refl
no-atom Is_word (a ∷ b ∷ []) = refl
no-atom Is_word (a ∷ b ∷ c ∷ more) = refl
no-atom Less_word [] = refl
no-atom Less_word (a ∷ []) = refl
no-atom Less_word (a ∷ b ∷ []) = refl
no-atom Less_word (a ∷ b ∷ c ∷ more) = refl
no-atom Print_word [] = refl
no-atom Print_word (a ∷ []) = refl
no-atom Print_word (a ∷ b ∷ more) = refl
no-atom Beta_word [] = refl
no-atom Beta_word (a ∷ []) = refl
no-atom Beta_word (a ∷ b ∷ []) = refl
no-atom Beta_word (a ∷ b ∷ c ∷ []) = refl
no-atom Beta_word (a ∷ b ∷ c ∷ d ∷ more) = refl
no-atom Suspend_word [] = refl
no-atom Suspend_word (a ∷ []) = refl
no-atom Suspend_word (a ∷ b ∷ []) = refl
no-atom Suspend_word (a ∷ b ∷ c ∷ more) = refl
no-atom Nil_word ts = refl
no-atom Cons_word ts = refl
no-atom Plus_word ts = refl
no-atom Minus_word ts = refl
no-atom Times_word ts = refl
no-atom Nonvar_word ts = refl
no-atom Distinct_word ts = refl

reserved-atom : (w : Reserved) (us : List Term) (c : ℕ) (ts : List Term) → reserved_goal w us ≡ formula.Atom c ts → ⊥
reserved-atom w us c ts e = let z : false ≡ true = sym (no-atom w us) ∙ ap is_atom e in absurd (let y : false ≡ true = z in cc)

-- an atom has the constant and the arguments that it was made of
pub record Same (d : ℕ) (us : List Term) (c : ℕ) (ts : List Term) : Type 0 where
  pub constant : d ≡ c
  pub arguments : us ≡ ts

atom-same : (d : ℕ) (us : List Term) (c : ℕ) (ts : List Term) → formula.Atom d us ≡ formula.Atom c ts → Same d us c ts
atom-same d us c ts e = record { constant = let z : d ≡ c = cc in z; arguments = let z : us ≡ ts = cc in z }

word-atom : (o : Option Reserved) (d : ℕ) (us : List Term) (c : ℕ) (ts : List Term) → word_goal o d us ≡ formula.Atom c ts → Same d us c ts
word-atom None d us c ts e = atom-same d us c ts e
word-atom (Some Nonvar_word) d us c ts e = atom-same d us c ts e
word-atom (Some Distinct_word) d us c ts e = atom-same d us c ts e
word-atom (Some True_word) d us c ts e = absurd (reserved-atom True_word us c ts e)
word-atom (Some Fail_word) d us c ts e = absurd (reserved-atom Fail_word us c ts e)
word-atom (Some Cut_word) d us c ts e = absurd (reserved-atom Cut_word us c ts e)
word-atom (Some And_word) d us c ts e = absurd (reserved-atom And_word us c ts e)
word-atom (Some Or_word) d us c ts e = absurd (reserved-atom Or_word us c ts e)
word-atom (Some Implies_word) d us c ts e = absurd (reserved-atom Implies_word us c ts e)
word-atom (Some If_word) d us c ts e = absurd (reserved-atom If_word us c ts e)
word-atom (Some Pi_word) d us c ts e = absurd (reserved-atom Pi_word us c ts e)
word-atom (Some Sigma_word) d us c ts e = absurd (reserved-atom Sigma_word us c ts e)
word-atom (Some Equal_word) d us c ts e = absurd (reserved-atom Equal_word us c ts e)
word-atom (Some Same_word) d us c ts e = absurd (reserved-atom Same_word us c ts e)
word-atom (Some Var_word) d us c ts e = absurd (reserved-atom Var_word us c ts e)
word-atom (Some Name_word) d us c ts e = absurd (reserved-atom Name_word us c ts e)
word-atom (Some Is_word) d us c ts e = absurd (reserved-atom Is_word us c ts e)
word-atom (Some Less_word) d us c ts e = absurd (reserved-atom Less_word us c ts e)
word-atom (Some Print_word) d us c ts e = absurd (reserved-atom Print_word us c ts e)
word-atom (Some Beta_word) d us c ts e = absurd (reserved-atom Beta_word us c ts e)
word-atom (Some Suspend_word) d us c ts e = absurd (reserved-atom Suspend_word us c ts e)
word-atom (Some Nil_word) d us c ts e = absurd (reserved-atom Nil_word us c ts e)
word-atom (Some Cons_word) d us c ts e = absurd (reserved-atom Cons_word us c ts e)
word-atom (Some Plus_word) d us c ts e = absurd (reserved-atom Plus_word us c ts e)
word-atom (Some Minus_word) d us c ts e = absurd (reserved-atom Minus_word us c ts e)
word-atom (Some Times_word) d us c ts e = absurd (reserved-atom Times_word us c ts e)

wrong-atom : (k : GoalKind) (c : ℕ) (ts : List Term) → is_atom k ≡ false → k ≡ formula.Atom c ts → ⊥
wrong-atom k c ts n e = let z : false ≡ true = sym n ∙ ap is_atom e in absurd (let y : false ≡ true = z in cc)

-- the head and the arguments of an atom
pub record IsAtom (u : Term) (c : ℕ) (ts : List Term) : Type 0 where
  pub head : head_of u ≡ Some (Con c)
  pub arguments : args_of u ≡ ts

headed-atom : (o : Option Head) (us : List Term) (c : ℕ) (ts : List Term) → shape_goal (headed 0 o us) ≡ formula.Atom c ts → (o ≡ Some (Con c)) × (us ≡ ts)
headed-atom None us c ts e = absurd (wrong-atom _ c ts refl e)
headed-atom (Some (Con d)) us c ts e = let w = word-atom (word_of d) d us c ts e in (ap (λ n. Some (Con n)) w.constant, w.arguments)
headed-atom (Some (Int n)) us c ts e = absurd (wrong-atom _ c ts refl e)
headed-atom (Some (Str s)) us c ts e = absurd (wrong-atom _ c ts refl e)
headed-atom (Some (Name n)) us c ts e = absurd (wrong-atom _ c ts refl e)
headed-atom (Some (Bound n)) us c ts e = absurd (wrong-atom _ c ts refl e)
headed-atom (Some (Var v)) us c ts e = absurd (go (nat_lt v 0) e)
  where
    go : (b : Bool) → shape_goal (cond b (shapes.Rigid (Var v) us) (shapes.Flex v us)) ≡ formula.Atom c ts → ⊥
    go true q = wrong-atom _ c ts refl q
    go false q = wrong-atom _ c ts refl q

pub atom-is : (u : Term) (c : ℕ) (ts : List Term) → goal_kind u ≡ formula.Atom c ts → IsAtom u c ts
atom-is (term.Lam b) c ts e = absurd (wrong-atom _ c ts refl e)
atom-is (term.At h) c ts e = let w = headed-atom (Some h) [] c ts e in record { head = w.0; arguments = w.1 }
atom-is (term.App f a) c ts e = let w = headed-atom (head_of f) (args_of f ++ a ∷ []) c ts e in record { head = w.0; arguments = w.1 }
