-- Checked programs and queries, without places.
use Rattle.std.specs.Prelude.{ℕ, Bool, false, cond, nat_eq, List, [], ◌∷◌, length, replicate, Option, Some, None}
use Rattle.ref_terms.specs.terms.Term.{Term, Head, Con}
use Rattle.ref_terms.specs.declared.pair.Pair.{Pair}
use Rattle.ref_terms.specs.unification.Spine.{head_of, args_of}

-- a declared predicate; for each argument whether it is an input
pub record Pred : Type 0 where
  pub name : ℕ
  pub inputs : List Bool

-- a program clause; its variables are Var 0, Var 1, .. below their number
pub record Clause : Type 0 where
  pub variables : ℕ
  pub head : Term
  pub body : Option Term

-- a head of a rule; its context, if any, is a variable of the rule
pub record RuleHead : Type 0 where
  pub context : Option ℕ
  pub goal : Term

-- a constraint rule; its names are those of its block, and there is a head at least
pub record Rule : Type 0 where
  pub names : List ℕ
  pub variables : ℕ
  pub kept : List RuleHead
  pub removed : List RuleHead
  pub pairs : List Pair
  pub tests : List Term
  pub body_context : Option ℕ
  pub body : Option Term

-- a checked program: the texts of the symbols by their numbers, and the rest in text order
pub record Program : Type 0 where
  pub symbols : List (List ℕ)
  pub preds : List Pred
  pub clauses : List Clause
  pub rules : List Rule

-- a variable of the query; those that begin with `_` aren't shown
pub record QueryVar : Type 0 where
  pub name : ℕ
  pub shown : Bool

-- a query; its variables are Var 0, Var 1, .. in order of first place
pub record Query : Type 0 where
  pub variables : List QueryVar
  pub goal : Term

-- the constant at the head
abbrev pub constant_of : Option Head → Option ℕ
constant_of (Some (Con c)) = Some c
constant_of _ = None

-- whether it is this constant
abbrev pub is_constant : ℕ → Option ℕ → Bool
is_constant c (Some d) = nat_eq c d
is_constant c None = false

-- whether the term is headed by this constant
abbrev pub headed_by : ℕ → Term → Bool
headed_by c t = is_constant c (constant_of (head_of t))

-- the modes by the first declaration, else the other ones
abbrev pub declared : ℕ → List Pred → Option (List Bool) → Option (List Bool)
declared c [] other = other
declared c (p ∷ ps) other = cond (nat_eq c p.name) (Some p.inputs) (declared c ps other)

-- without a declaration all arguments of the first clause head are outputs
abbrev pub from_clauses : ℕ → List Clause → Option (List Bool)
from_clauses c [] = None
from_clauses c (k ∷ ks) = cond (headed_by c k.head) (Some (replicate (length (args_of k.head)) false)) (from_clauses c ks)

-- the modes of a predicate with a stated number of arguments
abbrev pub modes_of : Program → ℕ → Option (List Bool)
modes_of p c = declared c p.preds (from_clauses c p.clauses)
