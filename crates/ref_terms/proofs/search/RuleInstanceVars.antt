-- Rule instances and their firing, where variables are renamed.
use Rattle.std.proofs.Common.{◌≡◌, ℕ, ◌+◌, ◌≤◌, Bool, true, false, cond, ◌&&◌, not, nat_eq, List, [], ◌∷◌, map, refl, sym, ap, ap₂, ◌∙◌, subst, Option, Some, None, option_map, unwrap_or, arith}
use Rattle.std.specs.List.{list_any, list_all}
use Rattle.ref_terms.specs.terms.Term.{Term, At, Var}
use Rattle.ref_terms.specs.terms.Renamed.{vars}
use Rattle.ref_terms.specs.unification.Problem.{Equation, Binding, Problem, Answer, Solved, Clashed, Faulted as UnifyFaulted}
use Rattle.ref_terms.specs.unification.Renamed.{binding_vars, renamed_answer}
use Rattle.ref_terms.specs.unification.Unification.{Unification}
use Rattle.ref_terms.specs.search.Reserved.{true_term}
use Rattle.ref_terms.specs.search.Fault.{Judged, Good, Bad, judged_map, judged_append}
use Rattle.ref_terms.specs.search.Program.{Rule}
use Rattle.ref_terms.specs.search.Assumption.{Assumption, assumptions_of}
use Rattle.ref_terms.specs.search.Lists.{items_of}
use Rattle.ref_terms.specs.search.Instance.{instance}
use Rattle.ref_terms.specs.search.Branch.{Constraint, Fired, Branch, bound}
use Rattle.ref_terms.specs.search.Joint.{Joint, joint}
use Rattle.ref_terms.specs.search.RuleTest.{holds}
use Rattle.ref_terms.specs.search.RuleMatch.{heads_of, fit_heads, match_equations}
use Rattle.ref_terms.specs.search.RuleInstance.{Firing, is_fired, body_assumptions, clauses_of_items, clauses_of_list, matched_value, firing, tested, after_matching, matched_at, admitted, rule_instance, after_firing}
use Rattle.ref_terms.specs.search.Renamed.{assumption_vars, constraint_vars, branch_vars}
use Rattle.ref_terms.specs.search.Alike.{IsRenamingAt}
use Rattle.ref_terms.proofs.search.Fair.{IsFair, AnswerGrown, grown-weaker, Outcome, in-order-later}
use Rattle.ref_terms.proofs.search.ListVars.{filter-vars, map-after}
use Rattle.ref_terms.proofs.search.TermVars.{items-vars}
use Rattle.ref_terms.proofs.search.AssumptionVars.{clauses_vars, append-vars, assumptions-vars}
use Rattle.ref_terms.proofs.search.InstanceVars.{instance-vars, from-next}
use Rattle.ref_terms.proofs.search.BranchVars.{bound-vars}
use Rattle.ref_terms.proofs.search.RuleTestVars.{holds-vars}
use Rattle.ref_terms.proofs.search.JointVars.{joint-vars}
use Rattle.ref_terms.proofs.search.RuleMatchVars.{fit_heads-vars, match-equations-vars}

-- a firing with its variables renamed
abbrev pub firing_vars : (ℕ → ℕ) → Firing → Firing
firing_vars p f = record f { assumptions = map (assumption_vars p) f.assumptions; body = vars p f.body; next_var = p f.next_var }

-- the same firing, renamed, which numbers variables no lower
abbrev pub RenamedFiring : (ℕ → ℕ) → ℕ → Firing → Firing → Type 0
RenamedFiring p lo f g = (lo ≤ f.next_var) × (g ≡ firing_vars p f)

all-same : {A : Type 0} (f g : A → Bool) → ((a : A) → f a ≡ g a) → (xs : List A) → list_all f xs ≡ list_all g xs
all-same f g e [] = refl
all-same f g e (x ∷ xs) = ap₂ (λ (b c : Bool). b && c) (e x) (all-same f g e xs)

items-assumptions-vars : (p : ℕ → ℕ) (names : ℕ) (ts : List Term) → clauses_of_items names (map (vars p) ts) ≡ clauses_vars p (clauses_of_items names ts)
items-assumptions-vars p names [] = refl
items-assumptions-vars p names (t ∷ ts) = ap₂ judged_append (assumptions-vars p names t) (items-assumptions-vars p names ts) ∙ append-vars p (assumptions_of names t) (clauses_of_items names ts)

list-assumptions-vars : (p : ℕ → ℕ) (names : ℕ) (o : Option (List Term)) → clauses_of_list names (option_map (map (vars p)) o) ≡ clauses_vars p (clauses_of_list names o)
list-assumptions-vars p names None = refl
list-assumptions-vars p names (Some ts) = items-assumptions-vars p names ts

body-assumptions-vars : (p : ℕ → ℕ) (o : Option ℕ) (names : ℕ) (f g : Term → Term) → ((t : Term) → g t ≡ vars p (f t)) → (cs : List Constraint)
    → body_assumptions o names g (map (constraint_vars p) cs) ≡ judged_map (map (assumption_vars p)) (body_assumptions o names f cs)
body-assumptions-vars p None names f g e [] = refl
body-assumptions-vars p None names f g e (c ∷ cs) = refl
body-assumptions-vars p (Some v) names f g e cs = ap (clauses_of_list names) (ap items_of (e (At (Var v))) ∙ items-vars p (f (At (Var v)))) ∙ list-assumptions-vars p names (items_of (f (At (Var v))))

module _ (p : ℕ → ℕ) (lo : ℕ) (good : IsRenamingAt lo p) (r : Rule) (names : ℕ) (fired : Fired) (cs : List Constraint) where
  firing-vars : (next : ℕ) → lo ≤ next → (f g : Term → Term) → ((t : Term) → g t ≡ vars p (f t)) → (j : Judged (List Assumption))
      → Outcome (RenamedFiring p lo) (Some (judged_map (firing r names next fired f) j)) (Some (judged_map (firing r names (p next) fired g) (judged_map (map (assumption_vars p)) j)))
  firing-vars next low f g e (Good hs) = (low, λ i. record (firing_vars p (firing r names next fired f hs)) { body = e (unwrap_or r.body true_term) i })
  firing-vars next low f g e (Bad b) = refl

  cond-outcome : {A : Type 0} (R : A → A → Type 0) (b : Bool) (x y : Option (Judged A)) → Outcome R x y → Outcome R (cond b x None) (cond b y None)
  cond-outcome R true x y w = w
  cond-outcome R false x y w = tt

  tested-vars : (next : ℕ) → lo ≤ next → (f g : Term → Term) → ((t : Term) → g t ≡ vars p (f t)) → Outcome (RenamedFiring p lo) (tested r names next fired cs f) (tested r names (p next) fired (map (constraint_vars p) cs) g)
  tested-vars next low f g e =
      let tests : list_all (λ t. holds (g t)) r.tests ≡ list_all (λ t. holds (f t)) r.tests = all-same (λ t. holds (g t)) (λ t. holds (f t)) (λ t. ap holds (e t) ∙ holds-vars p good.good.one_to_one (f t)) r.tests in
      subst (λ (z : Option (Judged Firing)). Outcome (RenamedFiring p lo) (tested r names next fired cs f) z)
      (sym (ap₂ (λ (b : Bool) (j : Judged (List Assumption)). cond b (Some (judged_map (firing r names (p next) fired g) j)) None) tests (body-assumptions-vars p r.body_context names f g e cs)))
      (cond-outcome (RenamedFiring p lo) (list_all (λ t. holds (f t)) r.tests) _ _ (firing-vars next low f g e (body_assumptions r.body_context names f cs)))

  value-vars : (bs : List Binding) (t : Term) → matched_value names (p lo) (map (binding_vars p) bs) t ≡ vars p (matched_value names lo bs t)
  value-vars bs t = ap (bound (map (binding_vars p) bs)) (sym (instance-vars p lo good.in_order names t)) ∙ sym (bound-vars p lo (p lo) good.good bs (instance names lo t))

  after-matching-vars : (a : Answer) → AnswerGrown lo a → Outcome (RenamedFiring p lo) (after_matching r names lo fired cs a) (after_matching r names (p lo) fired (map (constraint_vars p) cs) (renamed_answer p a))
  after-matching-vars (Solved q) low = tested-vars q.next_var low (matched_value names lo q.bindings) (matched_value names (p lo) (map (binding_vars p) q.bindings)) (value-vars q.bindings)
  after-matching-vars (Clashed k) low = tt
  after-matching-vars (UnifyFaulted f) low = refl

module _ (unify : Unification) (fair : IsFair unify) (p : ℕ → ℕ) (lo : ℕ) (good : IsRenamingAt lo p) (r : Rule) (fired : Fired) (cs : List Constraint) where
  matched-at-vars : (o : Option Joint) → Outcome (RenamedFiring p lo) (matched_at unify lo r fired cs o) (matched_at unify (p lo) r fired (map (constraint_vars p) cs) o)
  matched-at-vars None = tt
  matched-at-vars (Some j) =
      let problem : Problem = record { next_var = lo + r.variables; equations = match_equations r j.names lo (heads_of r) j.maps cs; bindings = [] } in
      let above : lo ≤ lo + r.variables = omega arith in
      let same : unify (p lo) (record { next_var = p lo + r.variables; equations = match_equations r j.names (p lo) (heads_of r) j.maps (map (constraint_vars p) cs); bindings = [] }) ≡ renamed_answer p (unify lo problem) =
      ap₂ (λ (n : ℕ) (es : List Equation). unify (p lo) (record { next_var = n; equations = es; bindings = [] })) (sym (from-next p lo good.in_order r.variables)) (match-equations-vars p lo good.in_order r j.names (heads_of r) j.maps cs)
      ∙ fair.renames p lo (p lo) problem good.good (in-order-later p lo (lo + r.variables) above good.in_order) in
      subst (λ (a : Answer). Outcome (RenamedFiring p lo) (matched_at unify lo r fired cs (Some j)) (after_matching r j.names (p lo) fired (map (constraint_vars p) cs) a)) (sym same)
      (after-matching-vars p lo good r j.names fired cs (unify lo problem) (grown-weaker lo (lo + r.variables) (unify lo problem) above (fair.grows lo problem)))

  admitted-vars : (b : Bool) → Outcome (RenamedFiring p lo) (admitted unify lo r fired cs b) (admitted unify (p lo) r fired (map (constraint_vars p) cs) b)
  admitted-vars false = tt
  admitted-vars true = subst (λ (o : Option Joint). Outcome (RenamedFiring p lo) (matched_at unify lo r fired cs (joint r.pairs cs)) (matched_at unify (p lo) r fired (map (constraint_vars p) cs) o)) (sym (joint-vars p good.good.one_to_one r.pairs cs)) (matched-at-vars (joint r.pairs cs))

numbers-same : (p : ℕ → ℕ) (cs : List Constraint) → map (λ c. c.number) (map (constraint_vars p) cs) ≡ map (λ c. c.number) cs
numbers-same p cs = map-after (λ c. c.number) (constraint_vars p) (λ c. c.number) (λ c. refl) cs

-- a rule instance
pub rule-instance-vars : (unify : Unification) (fair : IsFair unify) (p : ℕ → ℕ) (branch : Branch) (good : IsRenamingAt branch.next_var p) (place : ℕ) (r : Rule) (cs : List Constraint)
    → Outcome (RenamedFiring p branch.next_var) (rule_instance unify branch place r cs) (rule_instance unify (branch_vars p branch) place r (map (constraint_vars p) cs))
rule-instance-vars unify fair p branch good place r cs =
    let at : (List ℕ → Bool → Option (Judged Firing)) = λ ns fits. admitted unify (p branch.next_var) r (record { rule = place; constraints = ns }) (map (constraint_vars p) cs) (not (is_fired (record { rule = place; constraints = ns }) branch.fired) && fits) in
    let fired : Fired = record { rule = place; constraints = map (λ c. c.number) cs } in
    subst (λ (z : Option (Judged Firing)). Outcome (RenamedFiring p branch.next_var) (rule_instance unify branch place r cs) z)
    (sym (ap₂ at (numbers-same p cs) (fit_heads-vars p (heads_of r) cs)))
    (admitted-vars unify fair p branch.next_var good r fired cs (not (is_fired fired branch.fired) && fit_heads (heads_of r) cs))

-- the branch after a firing
pub after-firing-vars : (p : ℕ → ℕ) (branch : Branch) (barrier : ℕ) (f : Firing) → after_firing (branch_vars p branch) barrier (firing_vars p f) ≡ branch_vars p (after_firing branch barrier f)
after-firing-vars p branch barrier f = λ i. record (branch_vars p (after_firing branch barrier f)) { store = filter-vars (constraint_vars p) (λ c. not (list_any (nat_eq c.number) f.removed)) (λ c. not (list_any (nat_eq c.number) f.removed)) (λ c. refl) branch.store i }
