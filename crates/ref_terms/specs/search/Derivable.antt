-- Derivability: what a goal of a plain program means, without search, order or bindings.
use Rattle.std.specs.Prelude.{◌≡◌, ℕ, suc, ◌-◌, ◌≤◌, Bool, true, false, cond, ◌&&◌, nat_eq, List, [], ◌∷◌, ◌++◌, map, length, option_to_list, Option, Some, slice_get}
use Rattle.std.specs.List.{list_all}
use Rattle.ref_terms.specs.terms.Term.{Term, Lam, At, App, Head, Con, Name}
use Rattle.ref_terms.specs.terms.Index.{ren}
use Rattle.ref_terms.specs.terms.Apply.{apply, fill}
use Rattle.ref_terms.specs.terms.Instance.{inst_all}
use Rattle.ref_terms.specs.terms.Built.{IsBuilt}
use Rattle.ref_terms.specs.terms.Occurs.{has_name}
use Rattle.ref_terms.specs.search.Fault.{Good}
use Rattle.ref_terms.specs.search.Reserved.{Reserved, Cut_word, Same_word, Var_word, Name_word, Is_word, Less_word, Print_word, Beta_word, Suspend_word, word_of}
use Rattle.ref_terms.specs.search.Program.{Clause, Program, Query}
use Rattle.ref_terms.specs.search.Formula.{goal_kind, Truth, Conjunction, Disjunction, Assuming, ForAll, Exists, Unifying, Atom}
use Rattle.ref_terms.specs.search.Assumption.{Assumption, assumptions_of}
use Rattle.ref_terms.specs.search.Instance.{is_parameter}
use Rattle.ref_terms.specs.search.BranchMove.{applied_whole}

-- a term that may be chosen under so many names
pub record IsChosen (names : ℕ) (t : Term) : Type 0 where
  -- it is built by application and contracted abstraction
  pub built : IsBuilt t
  -- it has no free bound index
  pub closed : (f : ℕ → ℕ) → ren f t ≡ t
  -- its names are among the names in scope
  pub scoped : (x : ℕ) → names ≤ x → has_name x t ≡ false

-- a value for each variable or parameter, under so many names
abbrev pub AreChosen : (names : ℕ) → (ℕ → Term) → Type 0
AreChosen names values = (v : ℕ) → IsChosen names (values v)

-- what stands for a head of a hypothetical clause: its parameters get the values
abbrev pub parameter_value : Assumption → (ℕ → Term) → Head → Term
parameter_value h values (Name n) = cond (is_parameter h n) (values (n - h.scope)) (At (Name n))
parameter_value h values k = At k

-- a term of a hypothetical clause with these values for its parameters
abbrev pub with_parameters : Assumption → (ℕ → Term) → Term → Term
with_parameters h values t = fill (parameter_value h values) t

mutual
  -- a goal is derivable from the program's clauses, under so many names and these hypothetical clauses
  pub data Derivable (clauses : List Clause) : (names : ℕ) → List Assumption → Term → Type 0 where
    -- `true` is derivable
    truth : {names : ℕ} {hs : List Assumption} {goal : Term} → goal_kind goal ≡ Truth → Derivable clauses names hs goal
    -- `A , B` is, where both are
    both : {names : ℕ} {hs : List Assumption} {goal : Term} (a b : Term) → goal_kind goal ≡ Conjunction a b
        → Derivable clauses names hs a → Derivable clauses names hs b → Derivable clauses names hs goal
    -- `A ; B` is, where A is
    left_side : {names : ℕ} {hs : List Assumption} {goal : Term} (a b : Term) → goal_kind goal ≡ Disjunction a b
        → Derivable clauses names hs a → Derivable clauses names hs goal
    -- `A ; B` is, where B is
    right_side : {names : ℕ} {hs : List Assumption} {goal : Term} (a b : Term) → goal_kind goal ≡ Disjunction a b
        → Derivable clauses names hs b → Derivable clauses names hs goal
    -- `A = A` is
    equal : {names : ℕ} {hs : List Assumption} {goal : Term} (a : Term) → goal_kind goal ≡ Unifying a a → Derivable clauses names hs goal
    -- `D => G` is, where G is with the clauses of D added
    assuming : {names : ℕ} {hs : List Assumption} {goal : Term} (d g : Term) (added : List Assumption) → goal_kind goal ≡ Assuming d g
        → assumptions_of names d ≡ Good added → Derivable clauses names (added ++ hs) g → Derivable clauses names hs goal
    -- `pi F` is, where F applied to a new name is
    for_all : {names : ℕ} {hs : List Assumption} {goal : Term} (f : Term) → goal_kind goal ≡ ForAll f
        → Derivable clauses (suc names) hs (apply f (At (Name names))) → Derivable clauses names hs goal
    -- `sigma F` is, where the body of F with some term in it, or else F applied to some term, is
    exists : {names : ℕ} {hs : List Assumption} {goal : Term} (f chosen : Term) → goal_kind goal ≡ Exists f
        → IsChosen names chosen → Derivable clauses names hs (applied_whole f chosen) → Derivable clauses names hs goal
    -- an atom is, where it equals a clause's head and the clause's body is derivable, for some terms in place of the clause's variables
    by_clause : {names : ℕ} {hs : List Assumption} {goal : Term} (constant : ℕ) (args : List Term) (place : ℕ) (k : Clause) (values : ℕ → Term)
        → goal_kind goal ≡ Atom constant args → slice_get clauses place ≡ Some k → AreChosen names values → goal ≡ inst_all values k.head
        → AreDerivable clauses names hs (map (inst_all values) (option_to_list k.body)) → Derivable clauses names hs goal
    -- an atom is, where it equals a hypothetical clause's head and its conditions are derivable, for some terms in place of its parameters
    by_assumption : {names : ℕ} {hs : List Assumption} {goal : Term} (constant : ℕ) (args : List Term) (place : ℕ) (h : Assumption) (values : ℕ → Term)
        → goal_kind goal ≡ Atom constant args → slice_get hs place ≡ Some h → AreChosen names values → goal ≡ with_parameters h values h.head
        → AreDerivable clauses names hs (map (with_parameters h values) h.conditions) → Derivable clauses names hs goal

  -- each of these goals is derivable
  pub data AreDerivable (clauses : List Clause) : (names : ℕ) → List Assumption → List Term → Type 0 where
    -- no goal is left
    no_goals : {names : ℕ} {hs : List Assumption} → AreDerivable clauses names hs []
    -- the first goal, and the others
    one_more : {names : ℕ} {hs : List Assumption} {goal : Term} {goals : List Term} → Derivable clauses names hs goal
        → AreDerivable clauses names hs goals → AreDerivable clauses names hs (goal ∷ goals)

-- the reserved names that a plain program may have
abbrev pub is_plain_word : Option Reserved → Bool
is_plain_word (Some Cut_word) = false
is_plain_word (Some Same_word) = false
is_plain_word (Some Var_word) = false
is_plain_word (Some Name_word) = false
is_plain_word (Some Is_word) = false
is_plain_word (Some Less_word) = false
is_plain_word (Some Print_word) = false
is_plain_word (Some Beta_word) = false
is_plain_word (Some Suspend_word) = false
is_plain_word _ = true

-- a constant that isn't a reserved name but those, or another head
abbrev pub is_plain_head : Head → Bool
is_plain_head (Con c) = is_plain_word (word_of c)
is_plain_head _ = true

-- a term whose constants are plain
abbrev pub is_plain_term : Term → Bool
is_plain_term (Lam b) = is_plain_term b
is_plain_term (At h) = is_plain_head h
is_plain_term (App f a) = is_plain_term f && is_plain_term a

-- a clause of plain terms
abbrev pub is_plain_clause : Clause → Bool
is_plain_clause k = is_plain_term k.head && list_all is_plain_term (option_to_list k.body)

-- a program and a query without constraint rules, cuts, built-ins but `=`, and constraints: those for which derivability is meant
abbrev pub is_plain : Program → Query → Bool
is_plain p q = nat_eq (length p.rules) 0 && list_all is_plain_clause p.clauses && is_plain_term q.goal
