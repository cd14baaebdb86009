-- A rule that fires brings no variable from the next one on into use.
use Rattle.std.proofs.Common.{◌≡◌, ℕ, suc, ◌+◌, ◌≤◌, ◌<◌, Bool, true, false, cond, ◌&&◌, not, nat_eq, List, [], ◌∷◌, ◌++◌, map, filter, refl, Option, Some, None, arith, unwrap_or, option_to_list}
use Rattle.std.specs.List.{list_any, list_all}
use Rattle.ref_terms.specs.terms.Term.{Term, At, Con, Var}
use Rattle.ref_terms.specs.unification.Spine.{args_of}
use Rattle.ref_terms.specs.unification.Problem.{Equation, Binding, Problem, Answer, Solved, Clashed, Faulted as UnifyFaulted}
use Rattle.ref_terms.specs.unification.Unification.{unify}
use Rattle.ref_terms.specs.search.Reserved.{true_term}
use Rattle.ref_terms.specs.search.Fault.{Judged, Good, Bad, judged_map}
use Rattle.ref_terms.specs.search.Program.{RuleHead, Rule}
use Rattle.ref_terms.specs.search.Assumption.{Assumption, assumptions_of}
use Rattle.ref_terms.specs.search.Lists.{items_of, list_term}
use Rattle.ref_terms.specs.search.Instance.{variable_under, instance}
use Rattle.ref_terms.specs.search.Branch.{Goal, Constraint, Fired, Branch, bound}
use Rattle.ref_terms.specs.search.Joint.{Joint, joint, over_joint}
use Rattle.ref_terms.specs.search.RuleTest.{holds}
use Rattle.ref_terms.specs.search.RuleMatch.{heads_of, fit_heads, context_of, context_equations, head_equations, match_equations}
use Rattle.ref_terms.specs.search.RuleInstance.{Firing, is_fired, first_assumptions, clauses_of_items, clauses_of_list, body_assumptions, matched_value, firing, tested, after_matching, matched_at, admitted, rule_instance, after_firing}
use Rattle.ref_terms.specs.search.FirstRule.{tuples, or_later, first_tuple, first_firing}
use Rattle.ref_terms.specs.unification.Rules.{equations_of}
use Rattle.ref_terms.specs.search.Used.{Every, UsesBelow, AssumptionBelow, GoalBelow, ConstraintBelow, BranchBelow}
use Rattle.ref_terms.specs.search.Below.{ContextBelow, RuleHeadBelow, RuleBelow}
use Rattle.ref_terms.proofs.search.TouchedLemmas.{every-append, every-weaker, every-mapped, every-tuple}
use Rattle.ref_terms.proofs.search.BelowTerms.{every-filter, uses-more, uses-args, uses-variable, uses-under, uses-instance, uses-joint, uses-list, ItemsBelow, uses-items}
use Rattle.ref_terms.proofs.search.BelowUnify.{EquationBelow, equations-of-below, ProblemBelow, AnswerBelow, unify-below}
use Rattle.ref_terms.proofs.search.BelowClauses.{assumptions-more, goals-more, constraints-more, terms-more, AllBelow, all-more, term-bound, ReadBelow, append-below, assumptions-below}

-- the equations of a rule's heads
module _ (r : Rule) (names next : ℕ) where
  context-below : (map_of : List ℕ) (c : Constraint) → ConstraintBelow next c → UsesBelow next (context_of r map_of c)
  context-below map_of c w =
      let mine = filter (λ h. list_any (nat_eq h.pred) r.names) c.assumptions in
      uses-list next (map (λ h. over_joint map_of h.assumed) mine)
      (every-mapped (UsesBelow next) (λ h. over_joint map_of h.assumed) mine
      (every-weaker (AssumptionBelow next) (λ h. UsesBelow next (over_joint map_of h.assumed)) (λ h z. uses-joint next map_of h.assumed z.2) mine
      (every-filter (AssumptionBelow next) (λ h. list_any (nat_eq h.pred) r.names) c.assumptions w.0)))

  module _ (n : ℕ) where
    contexts-below : (map_of : List ℕ) (c : Constraint) → ConstraintBelow next c → (o : Option ℕ) → ContextBelow n o → Every (EquationBelow (next + n)) (context_equations r names next map_of c o)
    contexts-below map_of c w None u = tt
    contexts-below map_of c w (Some v) u = let low : v < n = u in ((uses-under (next + n) names (next + v) (omega arith), uses-more next (next + n) (omega arith) (context_of r map_of c) (context-below map_of c w)), tt)

    head-below : (h : RuleHead) → RuleHeadBelow n h → (map_of : List ℕ) (c : Constraint) → ConstraintBelow next c → Every (EquationBelow (next + n)) (head_equations r names next h map_of c)
    head-below h u map_of c w = every-append (EquationBelow (next + n)) (context_equations r names next map_of c h.context) (equations_of names (args_of (instance names next h.goal)) (map (over_joint map_of) (args_of c.term)))
        (contexts-below map_of c w h.context u.0)
        (equations-of-below (next + n) names (args_of (instance names next h.goal)) (map (over_joint map_of) (args_of c.term))
        (uses-args (next + n) (instance names next h.goal) (uses-instance n names next h.goal u.1))
        (every-mapped (UsesBelow (next + n)) (over_joint map_of) (args_of c.term)
        (every-weaker (UsesBelow next) (λ t. UsesBelow (next + n) (over_joint map_of t)) (λ t z. uses-joint (next + n) map_of t (uses-more next (next + n) (omega arith) t z)) (args_of c.term) (uses-args next c.term w.1))))

    heads-below : (hs : List RuleHead) → Every (RuleHeadBelow n) hs → (ms : List (List ℕ)) (cs : List Constraint) → Every (ConstraintBelow next) cs → Every (EquationBelow (next + n)) (match_equations r names next hs ms cs)
    heads-below [] u ms cs w = tt
    heads-below (h ∷ hs) u [] cs w = tt
    heads-below (h ∷ hs) u (m ∷ ms) [] w = tt
    heads-below (h ∷ hs) u (m ∷ ms) (c ∷ cs) w = every-append (EquationBelow (next + n)) (head_equations r names next h m c) (match_equations r names next hs ms cs) (head-below h u.0 m c w.0) (heads-below hs u.1 ms cs w.1)

-- what a rule does to a branch with this next variable
abbrev pub FiringBelow : ℕ → Firing → Type 0
FiringBelow next f = (next ≤ f.next_var) × Every (AssumptionBelow f.next_var) f.assumptions × UsesBelow f.next_var f.body

-- the firing, where there is one
abbrev pub FiredBelow : ℕ → Option (Judged Firing) → Type 0
FiredBelow next None = Unit {0}
FiredBelow next (Some (Good f)) = FiringBelow next f
FiredBelow next (Some (Bad e)) = Unit {0}

first-below : (q : ℕ) (cs : List Constraint) → Every (ConstraintBelow q) cs → Every (AssumptionBelow q) (first_assumptions cs)
first-below q [] w = tt
first-below q (c ∷ cs) w = w.0.0

items-below : (q names : ℕ) (ts : List Term) → Every (UsesBelow q) ts → ReadBelow q (clauses_of_items names ts)
items-below q names [] w = tt
items-below q names (t ∷ ts) w = append-below q (assumptions_of names t) (clauses_of_items names ts) (assumptions-below q names t w.0) (items-below q names ts w.1)

list-below : (q names : ℕ) (o : Option (List Term)) → ItemsBelow q o → ReadBelow q (clauses_of_list names o)
list-below q names None w = tt
list-below q names (Some ts) w = items-below q names ts w

-- the firing after matching: `n` is the number of the rule's variables
module _ (next : ℕ) (r : Rule) (good : RuleBelow r) (cs : List Constraint) (known : Every (ConstraintBelow next) cs) where
  module _ (names : ℕ) (f : Fired) (q : ℕ) (low : next ≤ q) (value : Term → Term) (keeps : (t : Term) → UsesBelow r.variables t → UsesBelow q (value t)) where
    assumed-below : (o : Option ℕ) → ContextBelow r.variables o → ReadBelow q (body_assumptions o names value cs)
    assumed-below None w = assumptions-more next q low (first_assumptions cs) (first-below next cs known)
    assumed-below (Some v) w = list-below q names (items_of (value (At (Var v)))) (uses-items q (value (At (Var v))) (keeps (At (Var v)) (uses-variable r.variables v w)))

    body-uses : (o : Option Term) → Every (UsesBelow r.variables) (option_to_list o) → UsesBelow q (value (unwrap_or o true_term))
    body-uses None w = keeps true_term (λ v h. refl)
    body-uses (Some t) w = keeps t w.0

    tested-below : FiredBelow next (tested r names q f cs value)
    tested-below = go (list_all (λ t. holds (value t)) r.tests) (body_assumptions r.body_context names value cs) (assumed-below r.body_context good.1)
      where
        go : (b : Bool) (j : Judged (List Assumption)) → ReadBelow q j → FiredBelow next (cond b (Some (judged_map (firing r names q f value) j)) None)
        go true (Good hs) w = (low, w, body-uses r.body good.2)
        go true (Bad e) w = tt
        go false j w = tt

  matching-below : (names : ℕ) (f : Fired) (a : Answer) → AnswerBelow (next + r.variables) a → FiredBelow next (after_matching r names next f cs a)
  matching-below names f (Solved p) w =
      let more : next + r.variables ≤ p.next_var = w.0 in
      tested-below names f p.next_var (omega arith) (matched_value names next p.bindings)
      (λ t k. term-bound p.next_var p.bindings w.2 (instance names next t) (uses-more (next + r.variables) p.next_var more (instance names next t) (uses-instance r.variables names next t k)))
  matching-below names f (Clashed k) w = tt
  matching-below names f (UnifyFaulted e) w = tt

  matched-at-below : (f : Fired) (o : Option Joint) → FiredBelow next (matched_at unify next r f cs o)
  matched-at-below f None = tt
  matched-at-below f (Some j) =
      let problem : Problem = record { next_var = next + r.variables; equations = match_equations r j.names next (heads_of r) j.maps cs; bindings = [] } in
      matching-below j.names f (unify next problem) (unify-below next (next + r.variables) problem (omega arith, heads-below r j.names next r.variables (heads_of r) good.0 j.maps cs known, tt))

  admitted-below : (f : Fired) (b : Bool) → FiredBelow next (admitted unify next r f cs b)
  admitted-below f true = matched-at-below f (joint r.pairs cs)
  admitted-below f false = tt

or-below : (next : ℕ) (o z : Option (Judged Firing)) → FiredBelow next o → FiredBelow next z → FiredBelow next (or_later o z)
or-below next None z u w = w
or-below next (Some j) z u w = u

module _ (branch : Branch) where
  instance-below : (place : ℕ) (r : Rule) → RuleBelow r → (cs : List Constraint) → Every (ConstraintBelow branch.next_var) cs → FiredBelow branch.next_var (rule_instance unify branch place r cs)
  instance-below place r good cs w =
      let f : Fired = record { rule = place; constraints = map (λ c. c.number) cs } in
      admitted-below branch.next_var r good cs w f (not (is_fired f branch.fired) && fit_heads (heads_of r) cs)

  tuple-below : (place : ℕ) (r : Rule) → RuleBelow r → (css : List (List Constraint)) → Every (Every (ConstraintBelow branch.next_var)) css → FiredBelow branch.next_var (first_tuple unify branch place r css)
  tuple-below place r good [] w = tt
  tuple-below place r good (cs ∷ css) w = or-below branch.next_var (rule_instance unify branch place r cs) (first_tuple unify branch place r css) (instance-below place r good cs w.0) (tuple-below place r good css w.1)

  pub firing-below : Every (ConstraintBelow branch.next_var) branch.store → (place : ℕ) (rs : List Rule) → Every RuleBelow rs → FiredBelow branch.next_var (first_firing unify branch place rs)
  firing-below w place [] u = tt
  firing-below w place (r ∷ rs) u = or-below branch.next_var (first_tuple unify branch place r (tuples (heads_of r) branch.store)) (first_firing unify branch (suc place) rs)
      (tuple-below place r u.0 (tuples (heads_of r) branch.store) (every-tuple (ConstraintBelow branch.next_var) (heads_of r) branch.store w)) (firing-below w (suc place) rs u.1)

  pub after-firing-below : (barrier : ℕ) (f : Firing) → FiringBelow branch.next_var f → BranchBelow branch → BranchBelow (after_firing branch barrier f)
  after-firing-below barrier f w all =
      let more = all-more branch.next_var f.next_var w.0 branch all in
      (((w.1, w.2), more.0), every-filter (ConstraintBelow f.next_var) (λ c. not (list_any (nat_eq c.number) f.removed)) branch.store more.1, more.2)
