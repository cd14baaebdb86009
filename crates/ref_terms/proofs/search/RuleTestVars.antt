-- Tests of rules, where variables are renamed.
use Rattle.std.proofs.Common.{◌≡◌, ℕ, not, List, [], ◌∷◌, map, refl, ap, ap₂, ◌∙◌, Option, Some, None}
use Rattle.ref_terms.specs.terms.Term.{Term}
use Rattle.ref_terms.specs.terms.Renamed.{vars}
use Rattle.ref_terms.specs.unification.Spine.{args_of, head_of}
use Rattle.ref_terms.specs.search.Reserved.{Reserved, Var_word, Name_word, Same_word, Less_word, Nonvar_word, Distinct_word}
use Rattle.ref_terms.specs.search.Program.{constant_of}
use Rattle.ref_terms.specs.search.RuleTest.{good_and_true, test_holds, word_at, holds}
use Rattle.ref_terms.proofs.unification.RenamedLemmas.{args-vars}
use Rattle.ref_terms.proofs.search.TermVars.{IsOneToOne, is_flex-vars, is_bare_name-vars, term_eq-vars, constant-vars}
use Rattle.ref_terms.proofs.search.ArithmeticVars.{less-vars}

module _ (p : ℕ → ℕ) (one : IsOneToOne p) where
  test-vars : (w : Option Reserved) (ts : List Term) → test_holds w (map (vars p) ts) ≡ test_holds w ts
  test-vars None ts = refl
  test-vars (Some Var_word) [] = refl
  test-vars (Some Var_word) (a ∷ []) = is_flex-vars p a
  test-vars (Some Var_word) (a ∷ b ∷ ts) = refl
  test-vars (Some Nonvar_word) [] = refl
  test-vars (Some Nonvar_word) (a ∷ []) = ap not (is_flex-vars p a)
  test-vars (Some Nonvar_word) (a ∷ b ∷ ts) = refl
  test-vars (Some Name_word) [] = refl
  test-vars (Some Name_word) (a ∷ []) = is_bare_name-vars p a
  test-vars (Some Name_word) (a ∷ b ∷ ts) = refl
  test-vars (Some Same_word) [] = refl
  test-vars (Some Same_word) (a ∷ []) = refl
  test-vars (Some Same_word) (a ∷ b ∷ []) = term_eq-vars p one a b
  test-vars (Some Same_word) (a ∷ b ∷ c ∷ ts) = refl
  test-vars (Some Distinct_word) [] = refl
  test-vars (Some Distinct_word) (a ∷ []) = refl
  test-vars (Some Distinct_word) (a ∷ b ∷ []) = ap not (term_eq-vars p one a b)
  test-vars (Some Distinct_word) (a ∷ b ∷ c ∷ ts) = refl
  test-vars (Some Less_word) [] = refl
  test-vars (Some Less_word) (a ∷ []) = refl
  test-vars (Some Less_word) (a ∷ b ∷ []) = ap good_and_true (less-vars p a b)
  test-vars (Some Less_word) (a ∷ b ∷ c ∷ ts) = refl
  test-vars (Some _) ts = refl

  pub holds-vars : (t : Term) → holds (vars p t) ≡ holds t
  holds-vars t = ap₂ (λ (c : Option ℕ) (ts : List Term). test_holds (word_at c) ts) (constant-vars p t) (args-vars p t) ∙ test-vars (word_at (constant_of (head_of t))) (args_of t)
