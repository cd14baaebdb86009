-- Hypothetical clauses, where variables are renamed.
use Rattle.std.proofs.Common.{◌≡◌, ℕ, zero, suc, ◌+◌, Bool, true, false, cond, nat_lt, List, [], ◌∷◌, map, refl, sym, ap, ap₂, ◌∙◌, Option, Some, None}
use Rattle.std.proofs.lemmas.List.{map-append}
use Rattle.ref_terms.specs.terms.Term.{Term, Lam, At, App, Con, Int, Str, Name, Bound, Var}
use Rattle.ref_terms.specs.terms.Renamed.{vars}
use Rattle.ref_terms.specs.terms.Apply.{apply}
use Rattle.ref_terms.specs.lemmas.VarsLemmas.{apply-vars}
use Rattle.ref_terms.specs.unification.Shape.{Shape, Abstraction, Redex, Rigid, Flex, shape}
use Rattle.ref_terms.specs.search.Reserved.{Reserved, True_word, Fail_word, Cut_word, And_word, Or_word, Implies_word, If_word, Pi_word, Sigma_word, Equal_word, Same_word, Var_word, Name_word, Is_word, Less_word, Print_word, Beta_word, Suspend_word, Nil_word, Cons_word, Plus_word, Minus_word, Times_word, Nonvar_word, Distinct_word, word_of, if_term, implies_term, pi_term}
use Rattle.ref_terms.specs.search.Fault.{Judged, Good, Bad, judged_map, judged_append}
use Rattle.ref_terms.specs.declared.fault.Fault.TheVariants.{FlexClause, NotGoal}
use Rattle.ref_terms.specs.search.Assumption.{Assumption, guarded, quantified, clause_form, clause_at, constants, read_at, assumptions_of}
use Rattle.ref_terms.specs.search.Renamed.{assumption_vars}
use Rattle.ref_terms.proofs.unification.RenamedLemmas.{close-vars}
use Rattle.ref_terms.proofs.search.TermVars.{shape_vars, shape-vars}
use Rattle.ref_terms.proofs.search.ListVars.{map-square}

-- clauses with their variables renamed, or the fault
abbrev pub clauses_vars : (ℕ → ℕ) → Judged (List Assumption) → Judged (List Assumption)
clauses_vars p j = judged_map (map (assumption_vars p)) j

module _ (p : ℕ → ℕ) where
  pub append-vars : (a b : Judged (List Assumption)) → judged_append (clauses_vars p a) (clauses_vars p b) ≡ clauses_vars p (judged_append a b)
  append-vars (Good xs) (Good ys) = ap Good (sym (map-append (assumption_vars p) xs ys))
  append-vars (Good xs) (Bad e) = refl
  append-vars (Bad e) b = refl

  each-vars : (f g : Assumption → Assumption) → ((h : Assumption) → g (assumption_vars p h) ≡ assumption_vars p (f h)) → (a : Judged (List Assumption)) → judged_map (map g) (clauses_vars p a) ≡ clauses_vars p (judged_map (map f) a)
  each-vars f g e (Good xs) = ap Good (map-square g (assumption_vars p) (assumption_vars p) f e xs)
  each-vars f g e (Bad b) = refl

  quantified-vars : (x : ℕ) (h : Assumption) → quantified x (assumption_vars p h) ≡ assumption_vars p (quantified x h)
  quantified-vars x h = λ i. record (assumption_vars p h) { assumed = pi_term (sym (close-vars p x h.assumed) i) }

  module _ (read read' : ℕ → Term → Judged (List Assumption)) (e : (k : ℕ) (t : Term) → read' k (vars p t) ≡ clauses_vars p (read k t)) (scope bound : ℕ) where
    form-vars : (c : ℕ) (w : Option Reserved) (ts : List Term) (t : Term) → clause_form read' scope bound c w (map (vars p) ts) (vars p t) ≡ clauses_vars p (clause_form read scope bound c w ts t)
    form-vars c None ts t = refl
    form-vars c (Some Nonvar_word) ts t = refl
    form-vars c (Some Distinct_word) ts t = refl
    form-vars c (Some And_word) [] t = refl
    form-vars c (Some And_word) (a ∷ []) t = refl
    form-vars c (Some And_word) (a ∷ b ∷ []) t = ap₂ judged_append (e bound a) (e bound b) ∙ append-vars (read bound a) (read bound b)
    form-vars c (Some And_word) (a ∷ b ∷ d ∷ ts) t = refl
    form-vars c (Some If_word) [] t = refl
    form-vars c (Some If_word) (a ∷ []) t = refl
    form-vars c (Some If_word) (a ∷ b ∷ []) t = ap (judged_map (map (guarded (vars p b) (λ x. if_term x (vars p b))))) (e bound a) ∙ each-vars (guarded b (λ x. if_term x b)) (guarded (vars p b) (λ x. if_term x (vars p b))) (λ h. refl) (read bound a)
    form-vars c (Some If_word) (a ∷ b ∷ d ∷ ts) t = refl
    form-vars c (Some Implies_word) [] t = refl
    form-vars c (Some Implies_word) (a ∷ []) t = refl
    form-vars c (Some Implies_word) (a ∷ b ∷ []) t = ap (judged_map (map (guarded (vars p a) (implies_term (vars p a))))) (e bound b) ∙ each-vars (guarded a (implies_term a)) (guarded (vars p a) (implies_term (vars p a))) (λ h. refl) (read bound b)
    form-vars c (Some Implies_word) (a ∷ b ∷ d ∷ ts) t = refl
    form-vars c (Some Pi_word) [] t = refl
    form-vars c (Some Pi_word) (f ∷ []) t =
        let x = scope + bound in
        ap (λ z. judged_map (map (quantified x)) (read' (suc bound) z)) (sym (apply-vars p f (At (Name x))))
        ∙ ap (judged_map (map (quantified x))) (e (suc bound) (apply f (At (Name x))))
        ∙ each-vars (quantified x) (quantified x) (quantified-vars x) (read (suc bound) (apply f (At (Name x))))
    form-vars c (Some Pi_word) (a ∷ b ∷ ts) t = refl
    form-vars c (Some True_word) ts t = refl
    form-vars c (Some Fail_word) ts t = refl
    form-vars c (Some Cut_word) ts t = refl
    form-vars c (Some Or_word) ts t = refl
    form-vars c (Some Sigma_word) ts t = refl
    form-vars c (Some Equal_word) ts t = refl
    form-vars c (Some Same_word) ts t = refl
    form-vars c (Some Var_word) ts t = refl
    form-vars c (Some Name_word) ts t = refl
    form-vars c (Some Is_word) ts t = refl
    form-vars c (Some Less_word) ts t = refl
    form-vars c (Some Print_word) ts t = refl
    form-vars c (Some Beta_word) ts t = refl
    form-vars c (Some Suspend_word) ts t = refl
    form-vars c (Some Nil_word) ts t = refl
    form-vars c (Some Cons_word) ts t = refl
    form-vars c (Some Plus_word) ts t = refl
    form-vars c (Some Minus_word) ts t = refl
    form-vars c (Some Times_word) ts t = refl

    at-vars : (t : Term) (s : Shape) → clause_at read' scope bound (vars p t) (shape_vars p s) ≡ clauses_vars p (clause_at read scope bound t s)
    at-vars t (Rigid (Con c) ts) = form-vars c (word_of c) ts t
    at-vars t (Rigid (Name n) ts) = go (nat_lt n scope)
      where
        go : (b : Bool) → cond {A = Judged (List Assumption)} b (Bad NotGoal) (Bad FlexClause) ≡ clauses_vars p (cond b (Bad NotGoal) (Bad FlexClause))
        go true = refl
        go false = refl
    at-vars t (Rigid (Int c) ts) = refl
    at-vars t (Rigid (Str c) ts) = refl
    at-vars t (Rigid (Bound c) ts) = refl
    at-vars t (Rigid (Var c) ts) = refl
    at-vars t (Flex v ts) = refl
    at-vars t Redex = refl
    at-vars t Abstraction = refl

    clause_at-vars : (t : Term) → clause_at read' scope bound (vars p t) (shape 0 (vars p t)) ≡ clauses_vars p (clause_at read scope bound t (shape 0 t))
    clause_at-vars t = ap (clause_at read' scope bound (vars p t)) (shape-vars p t) ∙ at-vars t (shape 0 t)

  constants-vars : (t : Term) → constants (vars p t) ≡ constants t
  constants-vars (Lam b) = constants-vars b
  constants-vars (At (Con c)) = refl
  constants-vars (At (Int c)) = refl
  constants-vars (At _) = refl
  constants-vars (App f a) = ap₂ (λ (m n : ℕ). m + n) (constants-vars f) (constants-vars a)

  read-vars : (n scope bound : ℕ) (t : Term) → read_at n scope bound (vars p t) ≡ clauses_vars p (read_at n scope bound t)
  read-vars zero scope bound t = clause_at-vars (λ k d. Bad NotGoal) (λ k d. Bad NotGoal) (λ k d. refl) scope bound t
  read-vars (suc n) scope bound t = clause_at-vars (read_at n scope) (read_at n scope) (λ k d. read-vars n scope k d) scope bound t

  pub assumptions-vars : (scope : ℕ) (t : Term) → assumptions_of scope (vars p t) ≡ clauses_vars p (assumptions_of scope t)
  assumptions-vars scope t = ap (λ n. read_at n scope 0 (vars p t)) (constants-vars t) ∙ read-vars (constants t) scope 0 t
