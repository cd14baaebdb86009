-- What the laws on touched pairs and on waking say.
use Rattle.std.specs.Prelude.{◌≡◌, ℕ, ◌+◌, ◌≤◌, ◌<◌, Bool, true, false, List, [], ◌∷◌, ◌++◌, map, filter, length, nat_eq, not, Some, None}
use Rattle.std.specs.List.{list_any, list_all}
use Rattle.ref_terms.specs.terms.Term.{At, Var}
use Rattle.ref_terms.specs.unification.Problem.{Binding}
use Rattle.ref_terms.specs.unification.Unification.{unify}
use Rattle.ref_terms.specs.search.Program.{Rule}
use Rattle.ref_terms.specs.search.Branch.{Constraint, Fired, Branch, bound_constraint, bound_branch}
use Rattle.ref_terms.specs.search.RuleMatch.{heads_of}
use Rattle.ref_terms.specs.search.RuleInstance.{Firing, rule_instance, after_firing}
use Rattle.ref_terms.specs.search.FirstRule.{tuples, first_tuple, first_firing}
use Rattle.ref_terms.specs.search.Next.{is_awake, woken}
use Rattle.ref_terms.specs.search.Renamed.{branch_vars}
use Rattle.ref_terms.specs.search.Alike.{IsRenamingAt}
use Rattle.ref_terms.specs.search.Used.{Every, ConstraintBelow}
use Rattle.ref_terms.specs.search.Touched.{Pairs, AllTouched, AllRefused, first_touched, constraint_has, is_touched, IsSoundConstraint}
use Rattle.ref_terms.specs.search.Waking.{IsQuiet}
use Rattle.ref_terms.specs.declared.pair.Pair.{Pair}
use Rattle.ref_terms.specs.search.Joint.{Joint, joint}
use Rattle.ref_terms.specs.search.Partners.{Shares}

-- the second has all pairs of the first
abbrev pub HasAllPairs : Pairs → Pairs → Type 0
HasAllPairs pairs more = (place number : ℕ) → pairs place number ≡ true → more place number ≡ true

-- it has the number's pairs with all rules
abbrev pub HasPairsOf : (count : ℕ) → Pairs → ℕ → Type 0
HasPairsOf count pairs n = (place : ℕ) → place < count → pairs place n ≡ true

-- the first instance is the first among the tuples that hold a pair
abbrev pub FirstTouchedIsFirst : Type 0
FirstTouchedIsFirst = (branch : Branch) (pairs : Pairs) (rs : List Rule) → AllTouched unify branch pairs 0 rs → first_touched unify branch pairs 0 rs ≡ first_firing unify branch 0 rs

-- after bindings: the constraints in which a bound variable stands are touched
abbrev pub TouchedAfterBindings : Type 0
TouchedAfterBindings = (branch : Branch) (bs : List Binding) (n : ℕ) → branch.next_var ≤ n → (pairs more : Pairs) (rs : List Rule) → HasAllPairs pairs more
    → Every (λ c. IsSoundConstraint branch.next_var c × (is_touched bs c ≡ true → HasPairsOf (length rs) more c.number)) branch.store
    → AllTouched unify branch pairs 0 rs → AllTouched unify (bound_branch bs n branch) more 0 rs

-- after a variable got another one as its value: those in which the other one stood are touched, or, by the law before, those in which the first one stood
abbrev pub TouchedAfterRenaming : Type 0
TouchedAfterRenaming = (branch : Branch) (v u n : ℕ) → branch.next_var ≤ n → v < n → u < n → (pairs more : Pairs) (rs : List Rule) → HasAllPairs pairs more
    → Every (λ c. IsSoundConstraint branch.next_var c × (constraint_has u c ≡ true → HasPairsOf (length rs) more c.number)) branch.store
    → AllTouched unify branch pairs 0 rs → AllTouched unify (bound_branch (record { variable = v; value = At (Var u) } ∷ []) n branch) more 0 rs

-- after an addition: the new constraint is touched
abbrev pub TouchedAfterAdding : Type 0
TouchedAfterAdding = (branch : Branch) (pairs more : Pairs) (c : Constraint) (rs : List Rule) → HasAllPairs pairs more → HasPairsOf (length rs) more c.number
    → AllTouched unify branch pairs 0 rs → AllTouched unify (record branch { store = branch.store ++ c ∷ [] }) more 0 rs

-- after constraints left: nothing is touched
abbrev pub TouchedAfterLeaving : Type 0
TouchedAfterLeaving = (branch : Branch) (pairs : Pairs) (stays : Constraint → Bool) (rs : List Rule) → AllTouched unify branch pairs 0 rs → AllTouched unify (record branch { store = filter stays branch.store }) pairs 0 rs

-- nor after a firing was noted
abbrev pub TouchedAfterFiring : Type 0
TouchedAfterFiring = (branch : Branch) (pairs : Pairs) (f : Fired) (rs : List Rule) → AllTouched unify branch pairs 0 rs → AllTouched unify (record branch { fired = branch.fired ++ f ∷ [] }) pairs 0 rs

-- pairs may be dropped where each tuple that holds one, and none that stays, is refused
abbrev pub TouchedAfterDropping : Type 0
TouchedAfterDropping = (branch : Branch) (pairs fewer : Pairs) (rs : List Rule) → AllTouched unify branch pairs 0 rs → AllRefused unify branch pairs fewer 0 rs → AllTouched unify branch fewer 0 rs

-- a refused tuple stays refused when a rule fires: so a search may go on after the tuple that fired
abbrev pub RefusedAfterFiring : Type 0
RefusedAfterFiring = (branch : Branch) (barrier : ℕ) (f : Firing) (place : ℕ) (r : Rule) (cs : List Constraint) → branch.next_var ≤ f.next_var → Every (ConstraintBelow branch.next_var) cs
    → rule_instance unify branch place r cs ≡ None → rule_instance unify (after_firing branch barrier f) place r cs ≡ None

-- and the tuple that fired is refused from then on
abbrev pub FiredIsRefused : Type 0
FiredIsRefused = (branch : Branch) (barrier : ℕ) (f : Firing) (place : ℕ) (r : Rule) (cs : List Constraint) → f.fired ≡ record { rule = place; constraints = map (λ c. c.number) cs }
    → rule_instance unify (after_firing branch barrier f) place r cs ≡ None

-- a constraint whose keys are all headed by watched variables isn't awake after bindings of others
abbrev pub WatchedSleepsOn : Type 0
WatchedSleepsOn = (watched : ℕ → Bool) (bs : List Binding) (c : Constraint) → Every (λ b. watched b.variable ≡ false) bs → IsQuiet watched c.keys → is_awake (bound_constraint bs c) ≡ false

-- sequents with joint names have one variable at both arguments of each pair: so a tuple with two different ones, or none, is refused
abbrev pub PairsShare : Type 0
PairsShare = (pairs : List Pair) (c : Constraint) (cs : List Constraint) (r : Joint) → joint pairs (c ∷ cs) ≡ Some r → (k : ℕ) → 1 ≤ k → k < 1 + length cs → Every (λ p. nat_eq p.right_head k ≡ true → Shares (c ∷ cs) p) pairs

-- a whole rule move: nothing is touched
abbrev pub TouchedAfterRule : Type 0
TouchedAfterRule = (branch : Branch) (barrier : ℕ) (f : Firing) → branch.next_var ≤ f.next_var → Every (ConstraintBelow branch.next_var) branch.store → (pairs : Pairs) (rs : List Rule)
    → AllTouched unify branch pairs 0 rs → AllTouched unify (after_firing branch barrier f) pairs 0 rs

-- a waking move: nothing is touched
abbrev pub TouchedAfterWaking : Type 0
TouchedAfterWaking = (branch : Branch) (barrier : ℕ) (up : List Constraint) (pairs : Pairs) (rs : List Rule) → AllTouched unify branch pairs 0 rs → AllTouched unify (woken branch barrier up) pairs 0 rs

-- the numbers of variables make no difference
abbrev pub TouchedRenamed : Type 0
TouchedRenamed = (branch : Branch) (p : ℕ → ℕ) → IsRenamingAt branch.next_var p → (pairs : Pairs) (rs : List Rule) → AllTouched unify branch pairs 0 rs → AllTouched unify (branch_vars p branch) pairs 0 rs

-- and the search goes on after the tuple that fired: those before it are refused, and the constraints that were removed are in none that is left
abbrev pub RestAfterFiring : Type 0
RestAfterFiring = (branch : Branch) (barrier : ℕ) (f : Firing) (place : ℕ) (r : Rule) (before : List (List Constraint)) (cs : List Constraint) (after : List (List Constraint))
    → branch.next_var ≤ f.next_var → Every (ConstraintBelow branch.next_var) branch.store → tuples (heads_of r) branch.store ≡ before ++ cs ∷ after → Every (λ ds. rule_instance unify branch place r ds ≡ None) before
    → f.fired ≡ record { rule = place; constraints = map (λ c. c.number) cs }
    → first_tuple unify (after_firing branch barrier f) place r (tuples (heads_of r) (after_firing branch barrier f).store) ≡ first_tuple unify (after_firing branch barrier f) place r (filter (list_all (λ c. not (list_any (nat_eq c.number) f.removed))) after)
