-- Clauses at the names of the goal that calls.
use Rattle.std.specs.Prelude.{ℕ, ◌+◌, ◌-◌, ◌&&◌, Bool, cond, not, nat_lt, List, map, option_to_list}
use Rattle.ref_terms.specs.terms.Term.{Term, At, Head, Name, Var}
use Rattle.ref_terms.specs.terms.Apply.{fill}
use Rattle.ref_terms.specs.unification.Spine.{apply_all}
use Rattle.ref_terms.specs.unification.Closing.{names_below}
use Rattle.ref_terms.specs.search.Program.{Clause}
use Rattle.ref_terms.specs.search.Assumption.{Assumption}

-- the variable made under so many names
abbrev pub variable_under : ℕ → ℕ → Term
variable_under names v = apply_all (At (Var v)) (map (λ n. At (Name n)) (names_below names))

-- what stands for the variables of a clause
abbrev pub fresh_for_variable : (names next : ℕ) → Head → Term
fresh_for_variable names next (Var v) = variable_under names (next + v)
fresh_for_variable names next h = At h

-- the variables of a clause, rule or query replaced by fresh ones
abbrev pub instance : (names next : ℕ) → Term → Term
instance names next t = fill (fresh_for_variable names next) t

-- the parameters are the names from `scope` on
abbrev pub is_parameter : Assumption → ℕ → Bool
is_parameter h n = not (nat_lt n h.scope) && nat_lt n (h.scope + h.parameters)

-- what stands for the parameters of an assumption
abbrev pub fresh_for_parameter : Assumption → (names next : ℕ) → Head → Term
fresh_for_parameter h names next (Name n) = cond (is_parameter h n) (variable_under names (next + (n - h.scope))) (At (Name n))
fresh_for_parameter h names next k = At k

-- the parameters of an assumption replaced by fresh variables
abbrev pub parameter_instance : Assumption → (names next : ℕ) → Term → Term
parameter_instance h names next t = fill (fresh_for_parameter h names next) t

-- a clause ready to be tried, with the next free variable after it
pub record ClauseInstance : Type 0 where
  pub next_var : ℕ
  pub head : Term
  pub body : List Term

-- a program clause at these names
abbrev pub clause_instance : Clause → (names next : ℕ) → ClauseInstance
clause_instance k names next = record {
  next_var = next + k.variables;
  head = instance names next k.head;
  body = map (instance names next) (option_to_list k.body);
}

-- an assumption at these names
abbrev pub assumption_instance : Assumption → (names next : ℕ) → ClauseInstance
assumption_instance h names next = record {
  next_var = next + h.parameters;
  head = parameter_instance h names next h.head;
  body = map (parameter_instance h names next) h.conditions;
}
