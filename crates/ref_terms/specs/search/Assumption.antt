-- Hypothetical clauses, read from a term.
use Rattle.std.specs.Prelude.{ℕ, zero, suc, ◌+◌, cond, nat_lt, List, [], ◌∷◌, map, Option, Some, None}
use Rattle.ref_terms.specs.terms.Term.{Term, Lam, At, App, Con, Name}
use Rattle.ref_terms.specs.terms.Apply.{apply}
use Rattle.ref_terms.specs.unification.Shape.{Shape, Abstraction, Redex as RedexShape, Rigid, Flex, shape}
use Rattle.ref_terms.specs.unification.Closing.{close}
use Rattle.ref_terms.specs.search.Reserved.{Reserved, And_word, Implies_word, If_word, Pi_word, Nonvar_word, Distinct_word, word_of, if_term, implies_term, pi_term}
use Rattle.ref_terms.specs.search.Fault.{Judged, Good, Bad, judged_map, judged_append}
use Rattle.ref_terms.specs.declared.fault.Fault.TheVariants.{FlexClause, NotGoal, Redex}

-- a hypothetical clause: its parameters are the names from `scope` on, its outer conditions stand first
pub record Assumption : Type 0 where
  pub pred : ℕ
  pub scope : ℕ
  pub parameters : ℕ
  pub head : Term
  pub conditions : List Term
  -- the term that was assumed
  pub assumed : Term

-- with one more condition outside, and a form around the assumed term
abbrev pub guarded : Term → (Term → Term) → Assumption → Assumption
guarded g form h = record h { conditions = g ∷ h.conditions; assumed = form h.assumed }

-- with a `pi` around the assumed term, over the parameter
abbrev pub quantified : ℕ → Assumption → Assumption
quantified x h = record h { assumed = pi_term (close x h.assumed) }

-- a clause without conditions
abbrev pub atom_clause : (scope bound : ℕ) → ℕ → Term → Judged (List Assumption)
atom_clause scope bound c t = Good (record { pred = c; scope = scope; parameters = bound; head = t; conditions = []; assumed = t } ∷ [])

-- a form that is read, with its parts; `read` reads a part under the parameters so far, or under one more
abbrev pub clause_form : (ℕ → Term → Judged (List Assumption)) → (scope bound : ℕ) → ℕ → Option Reserved → List Term → Term → Judged (List Assumption)
clause_form read scope bound c (Some And_word) (d ∷ e ∷ []) t = judged_append (read bound d) (read bound e)
clause_form read scope bound c (Some If_word) (d ∷ g ∷ []) t = judged_map (map (guarded g (λ a. if_term a g))) (read bound d)
clause_form read scope bound c (Some Implies_word) (g ∷ d ∷ []) t = judged_map (map (guarded g (implies_term g))) (read bound d)
clause_form read scope bound c (Some Pi_word) (f ∷ []) t = judged_map (map (quantified (scope + bound))) (read (suc bound) (apply f (At (Name (scope + bound)))))
clause_form read scope bound c None ts t = atom_clause scope bound c t
clause_form read scope bound c (Some Nonvar_word) ts t = atom_clause scope bound c t
clause_form read scope bound c (Some Distinct_word) ts t = atom_clause scope bound c t
clause_form read scope bound c (Some _) ts t = Bad NotGoal

-- a clause by the shape of its term
abbrev pub clause_at : (ℕ → Term → Judged (List Assumption)) → (scope bound : ℕ) → Term → Shape → Judged (List Assumption)
clause_at read scope bound t (Rigid (Con c) ts) = clause_form read scope bound c (word_of c) ts t
clause_at read scope bound t (Rigid (Name n) ts) = cond (nat_lt n scope) (Bad NotGoal) (Bad FlexClause)
clause_at read scope bound t (Rigid _ ts) = Bad NotGoal
clause_at read scope bound t (Flex v ts) = Bad FlexClause
clause_at read scope bound t RedexShape = Bad Redex
clause_at read scope bound t Abstraction = Bad NotGoal

-- how many constants stand in a term: each form that is read uses up one
abbrev pub constants : Term → ℕ
constants (Lam b) = constants b
constants (At (Con c)) = 1
constants (At _) = 0
constants (App f a) = constants f + constants a

-- the clauses of a term, with so many forms to read at most, and so many parameters so far
abbrev pub read_at : ℕ → (scope bound : ℕ) → Term → Judged (List Assumption)
read_at zero scope bound t = clause_at (λ k d. Bad NotGoal) scope bound t (shape 0 t)
read_at (suc n) scope bound t = clause_at (read_at n scope) scope bound t (shape 0 t)

-- the clauses of a term under so many names, or the leftmost fault
abbrev pub assumptions_of : (scope : ℕ) → Term → Judged (List Assumption)
assumptions_of scope t = read_at (constants t) scope 0 t
