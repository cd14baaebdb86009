-- A rule instance, and the branch after it fires.
use Rattle.std.specs.Prelude.{ℕ, ◌+◌, Bool, true, false, cond, ◌&&◌, not, nat_eq, List, [], ◌∷◌, ◌++◌, map, filter, Option, Some, None, unwrap_or}
use Rattle.std.specs.List.{list_any, list_all}
use Rattle.ref_terms.specs.terms.Term.{Term, At, Var}
use Rattle.ref_terms.specs.unification.Problem.{Binding, Answer, Solved, Clashed, Faulted as UnifyFaulted}
use Rattle.ref_terms.specs.search.Reserved.{true_term}
use Rattle.ref_terms.specs.search.Fault.{of_unification, Judged, Good, Bad, judged_map, judged_append}
use Rattle.ref_terms.specs.search.Program.{Rule}
use Rattle.ref_terms.specs.search.Assumption.{Assumption, assumptions_of}
use Rattle.ref_terms.specs.search.Lists.{items_of}
use Rattle.ref_terms.specs.declared.fault.Fault.TheVariants.{NotGoal}
use Rattle.ref_terms.specs.search.Instance.{instance}
use Rattle.ref_terms.specs.search.Branch.{Constraint, Fired, Branch, bound}
use Rattle.ref_terms.specs.search.Joint.{Joint, joint}
use Rattle.ref_terms.specs.search.Resolve.{Unification}
use Rattle.ref_terms.specs.search.RuleTest.{holds}
use Rattle.ref_terms.specs.search.RuleMatch.{heads_of, fit_heads, match_equations}

-- what a rule does to a branch
pub record Firing : Type 0 where
  pub fired : Fired
  pub removed : List ℕ
  pub names : ℕ
  pub assumptions : List Assumption
  pub body : Term
  pub next_var : ℕ

-- equal lists of numbers
abbrev pub numbers_eq : List ℕ → List ℕ → Bool
numbers_eq [] [] = true
numbers_eq (a ∷ xs) (b ∷ ys) = nat_eq a b && numbers_eq xs ys
numbers_eq _ _ = false

-- whether this rule fired on these constraints
abbrev pub is_fired : Fired → List Fired → Bool
is_fired f fs = list_any (λ g. nat_eq f.rule g.rule && numbers_eq f.constraints g.constraints) fs

-- the assumptions of the first head
abbrev pub first_assumptions : List Constraint → List Assumption
first_assumptions [] = []
first_assumptions (c ∷ cs) = c.assumptions

-- the clauses of terms from left to right, or the first fault
abbrev pub clauses_of_items : (names : ℕ) → List Term → Judged (List Assumption)
clauses_of_items names [] = Good []
clauses_of_items names (t ∷ ts) = judged_append (assumptions_of names t) (clauses_of_items names ts)

-- the clauses of a list; what is no list is a fault
abbrev pub clauses_of_list : (names : ℕ) → Option (List Term) → Judged (List Assumption)
clauses_of_list names None = Bad NotGoal
clauses_of_list names (Some ts) = clauses_of_items names ts

-- the assumptions of the body: the clauses of its context, or without one those of the first head; `value` is what a term of the rule stands for
abbrev pub body_assumptions : Option ℕ → (names : ℕ) → (Term → Term) → List Constraint → Judged (List Assumption)
body_assumptions None names value cs = Good (first_assumptions cs)
body_assumptions (Some v) names value cs = clauses_of_list names (items_of (value (At (Var v))))

-- the constraints after the kept heads
abbrev pub without_kept : {A B : Type 0} → List A → List B → List B
without_kept [] xs = xs
without_kept (k ∷ ks) [] = []
without_kept (k ∷ ks) (x ∷ xs) = without_kept ks xs

-- what a term of the rule stands for after matching
abbrev pub matched_value : (names next : ℕ) → List Binding → Term → Term
matched_value names next bs t = bound bs (instance names next t)

-- the firing with these assumptions; `next` is the next free variable after matching
abbrev pub firing : Rule → (names next : ℕ) → Fired → (Term → Term) → List Assumption → Firing
firing r names next f value hs = record {
  fired = f;
  removed = without_kept r.kept f.constraints;
  names = names;
  assumptions = hs;
  body = value (unwrap_or r.body true_term);
  next_var = next;
}

-- after matching: none where a test doesn't hold
abbrev pub tested : Rule → (names next : ℕ) → Fired → List Constraint → (Term → Term) → Option (Judged Firing)
tested r names next f cs value = cond (list_all (λ t. holds (value t)) r.tests)
    (Some (judged_map (firing r names next f value) (body_assumptions r.body_context names value cs)))
    None

-- what follows from the answer of matching: a clash refuses the instance
abbrev pub after_matching : Rule → (names next : ℕ) → Fired → List Constraint → Answer → Option (Judged Firing)
after_matching r names next f cs (Solved q) = tested r names q.next_var f cs (matched_value names next q.bindings)
after_matching r names next f cs (Clashed knot) = None
after_matching r names next f cs (UnifyFaulted e) = Some (Bad (of_unification e))

-- matching at the joint names, with all older variables frozen; without joint names the instance is refused
abbrev pub matched_at : Unification → (next : ℕ) → Rule → Fired → List Constraint → Option Joint → Option (Judged Firing)
matched_at unify next r f cs None = None
matched_at unify next r f cs (Some j) = after_matching r j.names next f cs
    (unify next (record { next_var = next + r.variables; equations = match_equations r j.names next (heads_of r) j.maps cs; bindings = [] }))

-- matching, where the pair hasn't fired and the heads fit
abbrev pub admitted : Unification → (next : ℕ) → Rule → Fired → List Constraint → Bool → Option (Judged Firing)
admitted unify next r f cs false = None
admitted unify next r f cs true = matched_at unify next r f cs (joint r.pairs cs)

-- the firing of the rule at this place on these constraints: none where it is refused, a fault where matching ends in one
abbrev pub rule_instance : Unification → Branch → (place : ℕ) → Rule → List Constraint → Option (Judged Firing)
rule_instance unify branch place r cs =
    let f : Fired = record { rule = place; constraints = map (λ c. c.number) cs } in
    admitted unify branch.next_var r f cs (not (is_fired f branch.fired) && fit_heads (heads_of r) cs)

-- the branch after firing: the body is the first goal, and the removed constraints leave the store
abbrev pub after_firing : Branch → (barrier : ℕ) → Firing → Branch
after_firing branch barrier f = record branch {
  goals = record { names = f.names; assumptions = f.assumptions; barrier = barrier; term = f.body } ∷ branch.goals;
  store = filter (λ c. not (list_any (nat_eq c.number) f.removed)) branch.store;
  fired = branch.fired ++ f.fired ∷ [];
  next_var = f.next_var;
}
