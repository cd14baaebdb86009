-- An assumption whose key doesn't agree with the goal's clashes.
use Rattle.std.proofs.Common.{◌≡◌, ℕ, ◌+◌, ◌-◌, Bool, true, false, cond, ◌&&◌, not, nat_eq, nat_lt, List, [], map, length, Option, Some, refl, sym, ap, ◌∙◌, subst, eqb-true}
use Rattle.std.proofs.lemmas.List.{length-map}
use Rattle.ref_terms.specs.terms.Term as term
use Rattle.ref_terms.specs.terms.Term.{Term, Head, At}
use Rattle.ref_terms.specs.unification.Spine.{args_of, head_of}
use Rattle.ref_terms.specs.unification.Unification.{unify}
use Rattle.ref_terms.specs.search.Branch.{Goal, Branch}
use Rattle.ref_terms.specs.search.Assumption.{Assumption}
use Rattle.ref_terms.specs.search.Instance.{ClauseInstance, assumption_instance, parameter_instance, fresh_for_parameter, variable_under}
use Rattle.ref_terms.specs.search.State.{of_assumption}
use Rattle.ref_terms.specs.search.Resolve.{Tried, Clashes, equations_at, matched, entered, try}
use Rattle.clause_key.specs.declared.key.Key.{Key}
use Rattle.clause_key.specs.declared.key.Key.TheVariants.{Any, Con, Int, Str, Level, Lam}
use Rattle.clause_key.specs.Keys.{key_of_head, key_among, fits_every, agree, inputs_for, fixed_key, assumption_key}
use Rattle.clause_key.specs.Laws.{DisagreeingAssumptionClashes}
use Rattle.clause_key.proofs.ClashLemmas.{Differ, disagreeing, filled-args, tried-clashes}

-- a fixed key that doesn't agree with each is the key itself
pub fixed-same : (scope : ℕ) (k : Key) → fits_every (fixed_key scope k) ≡ false → fixed_key scope k ≡ k
fixed-same scope Any e = refl
fixed-same scope (Con c) e = refl
fixed-same scope (Int n) e = refl
fixed-same scope (Str s) e = refl
fixed-same scope Lam e = refl
fixed-same scope (Level l) e = by (nat_lt l scope) e
  where
    by : (b : Bool) → fits_every (cond b (Level l) Any) ≡ false → cond b (Level l) Any ≡ Level l
    by true e = refl
    by false e = absurd (let z : true ≡ false = e in cc)

-- the variables for parameters leave a head with such a key alone
module _ (a : Assumption) (names next : ℕ) where
  parameter-stay : (h : Head) → fits_every (fixed_key a.scope (key_of_head h)) ≡ false → fresh_for_parameter a names next h ≡ At h
  parameter-stay (term.Con c) e = refl
  parameter-stay (term.Int c) e = refl
  parameter-stay (term.Str c) e = refl
  parameter-stay (term.Bound c) e = refl
  parameter-stay (term.Var c) e = refl
  parameter-stay (term.Name n) e = by (nat_lt n a.scope) e
    where
      by : (b : Bool) → fits_every (cond b (Level n) Any) ≡ false → cond (not b && nat_lt n (a.scope + a.parameters)) (variable_under names (next + (n - a.scope))) (At (term.Name n)) ≡ At (term.Name n)
      by true e = refl
      by false e = absurd (let z : true ≡ false = e in cc)

-- the arguments of the assumption's instance against those of the goal
module _ (modes : Option (List Bool)) (c i barrier : ℕ) (a : Assumption) (b : Branch) (goal : Goal) (rest : List Goal) (headed : head_of a.head ≡ Some (term.Con c)) (count : length (args_of goal.term) ≡ length (inputs_for modes goal.term)) (differ : Differ (key_among (inputs_for modes goal.term) (args_of goal.term)) (assumption_key (inputs_for modes goal.term) a)) where
  abbrev ms : List Bool
  ms = inputs_for modes goal.term

  abbrev made : ClauseInstance
  made = assumption_instance a goal.names b.next_var

  abbrev branch : Branch
  branch = entered b goal rest barrier (of_assumption i a) made.body

  -- the inputs and then the outputs, where there are as many
  abbrev attempt : List Term → Tried
  attempt ss = matched unify branch (equations_at false goal.names ms ss (args_of goal.term))
      (unify b.next_var (record { next_var = made.next_var; equations = equations_at true goal.names ms ss (args_of goal.term); bindings = [] }))

  same-args : args_of made.head ≡ map (parameter_instance a goal.names b.next_var) (args_of a.head)
  same-args = filled-args (fresh_for_parameter a goal.names b.next_var) (term.Con c) refl a.head headed

  own : assumption_key ms a ≡ key_among ms (args_of a.head)
  own = fixed-same a.scope (key_among ms (args_of a.head)) differ.clause_firm

  by-count : (same : Bool) → nat_eq (length (args_of made.head)) (length (args_of goal.term)) ≡ same → cond same (attempt (args_of made.head)) Clashes ≡ Clashes
  by-count false e = refl
  by-count true e =
      let long : length (args_of a.head) ≡ length (args_of goal.term) =
      sym (length-map (args_of a.head) (parameter_instance a goal.names b.next_var)) ∙ ap length (sym same-args) ∙ eqb-true (length (args_of made.head)) (length (args_of goal.term)) e in
      ap attempt same-args
      ∙ tried-clashes (fresh_for_parameter a goal.names b.next_var) goal.names made.next_var b branch ms (args_of a.head) (args_of goal.term) long count
      (λ h q. parameter-stay a goal.names b.next_var h (ap (λ k. fits_every (fixed_key a.scope k)) (sym q) ∙ differ.clause_firm)) (subst (Differ (key_among ms (args_of goal.term))) own differ)

  pub assumption-clashes : try unify modes b goal rest barrier (of_assumption i a) ≡ Clashes
  assumption-clashes = by-count (nat_eq (length (args_of made.head)) (length (args_of goal.term))) refl

pub disagreeing-assumption : DisagreeingAssumptionClashes
disagreeing-assumption modes c i barrier a b goal rest headed count d =
    assumption-clashes modes c i barrier a b goal rest headed count (disagreeing (key_among (inputs_for modes goal.term) (args_of goal.term)) (assumption_key (inputs_for modes goal.term) a) d)
