-- A one-to-one renaming of the variables in use goes on to one of all variables.
use Rattle.std.proofs.Common.{◌≡◌, ℕ, suc, ◌+◌, ◌-◌, ◌≤◌, ◌<◌, Bool, true, false, cond, ◌||◌, nat_eq, nat_lt, List, [], ◌∷◌, map, refl, sym, ap, ap₂, ◌∙◌, arith}
use Rattle.std.proofs.lemmas.Bool.{lt-ltb, le-ltb, ltb-true, ltb-false, eqb-true, eqb-false}
use Rattle.ref_terms.specs.terms.Term.{Term, Lam, At, App, Head, Con, Int, Var}
use Rattle.ref_terms.specs.terms.Occurs.{is_variable, occurs}
use Rattle.ref_terms.specs.terms.Renamed.{vars, vars_head}
use Rattle.ref_terms.specs.search.Assumption.{Assumption}
use Rattle.ref_terms.specs.search.Branch.{Goal, Constraint, Branch}
use Rattle.ref_terms.specs.search.Renamed.{assumption_vars, goal_vars, constraint_vars, branch_vars}
use Rattle.ref_terms.specs.search.Alike.{RenamedBranch}
use Rattle.ref_terms.specs.search.Used.{Every, UsesBelow, AssumptionBelow, GoalBelow, ConstraintBelow, BranchBelow}

module _ (next n : ℕ) (q : ℕ → ℕ) where
  -- the renaming below the next variable, and in order from n on above it
  pub extended : ℕ → ℕ
  extended v = cond (nat_lt v next) (q v) (n + (v - next))

  pub extended-low : (v : ℕ) → v < next → extended v ≡ q v
  unfolding extended
  extended-low v low = rw (lt-ltb v next low) refl

  pub extended-high : (v : ℕ) → next ≤ v → extended v ≡ n + (v - next)
  unfolding extended
  extended-high v high = rw (le-ltb v next high) refl

  module _ (one : (v w : ℕ) → v < next → w < next → q v ≡ q w → v ≡ w) (below : (v : ℕ) → v < next → q v < n) where
    injective : (a b : ℕ) → extended a ≡ extended b → a ≡ b
    injective a b e = go (nat_lt a next) refl (nat_lt b next) refl
      where
        go : (x : Bool) → nat_lt a next ≡ x → (y : Bool) → nat_lt b next ≡ y → a ≡ b
        go true f true g =
            let u = ltb-true a next f in
            let v = ltb-true b next g in
            one a b u v (sym (extended-low a u) ∙ e ∙ extended-low b v)
        go true f false g =
            let u = ltb-true a next f in
            let v = ltb-false b next g in
            let s = below a u in
            let c = extended-low a u in
            let d = extended-high b v in
            omega arith
        go false f true g =
            let u = ltb-false a next f in
            let v = ltb-true b next g in
            let s = below b v in
            let c = extended-high a u in
            let d = extended-low b v in
            omega arith
        go false f false g =
            let u = ltb-false a next f in
            let v = ltb-false b next g in
            let c = extended-high a u in
            let d = extended-high b v in
            omega arith

    pub one-to-one : (a b : ℕ) → nat_eq (extended a) (extended b) ≡ nat_eq a b
    one-to-one a b = go (nat_eq (extended a) (extended b)) refl (nat_eq a b) refl
      where
        go : (x : Bool) → nat_eq (extended a) (extended b) ≡ x → (y : Bool) → nat_eq a b ≡ y → nat_eq (extended a) (extended b) ≡ nat_eq a b
        go true e true f = e ∙ sym f
        go false e false f = e ∙ sym f
        go true e false f = absurd (eqb-false a b f (injective a b (eqb-true (extended a) (extended b) e)))
        go false e true f = absurd (eqb-false (extended a) (extended b) e (ap extended (eqb-true a b f)))

    pub older : (v : ℕ) → nat_lt (extended v) (extended next) ≡ nat_lt v next
    older v = go (nat_lt v next) refl
      where
        top : extended next ≡ n
        top = let e = extended-high next (omega arith) in omega arith

        go : (x : Bool) → nat_lt v next ≡ x → nat_lt (extended v) (extended next) ≡ nat_lt v next
        go true e =
            let u = ltb-true v next e in
            let s = below v u in
            let c = extended-low v u in
            let d = top in
            lt-ltb (extended v) (extended next) (omega arith) ∙ sym e
        go false e =
            let u = ltb-false v next e in
            let c = extended-high v u in
            let d = top in
            le-ltb (extended v) (extended next) (omega arith) ∙ sym e

    pub in-order : (k : ℕ) → next ≤ k → extended (suc k) ≡ suc (extended k)
    in-order k high = let c = extended-high k high in let d = extended-high (suc k) (omega arith) in omega arith

  -- where all variables are below the next one, only their renaming is seen
  or-left : (a b : Bool) → (a || b) ≡ false → a ≡ false
  or-left true b e = e
  or-left false b e = refl

  or-right : (a b : Bool) → (a || b) ≡ false → b ≡ false
  or-right true b e = absurd (let z : true ≡ false = e in cc)
  or-right false b e = e

  variable-below : (v : ℕ) → ((w : ℕ) → next ≤ w → nat_eq w v ≡ false) → v < next
  variable-below v h = go (nat_lt v next) refl
    where
      go : (x : Bool) → nat_lt v next ≡ x → v < next
      go true e = ltb-true v next e
      go false e = absurd (eqb-false v v (h v (ltb-false v next e)) refl)

  head-same : (h : Head) → ((v : ℕ) → next ≤ v → is_variable v h ≡ false) → vars_head extended h ≡ vars_head q h
  head-same (Var v) w = ap Var (extended-low v (variable-below v w))
  head-same (Con c) w = refl
  head-same (Int c) w = refl
  head-same _ w = refl

  term-same : (t : Term) → UsesBelow next t → vars extended t ≡ vars q t
  term-same (Lam b) w = ap Lam (term-same b w)
  term-same (At h) w = ap At (head-same h w)
  term-same (App g a) w = ap₂ App (term-same g (λ v high. or-left (occurs v g) (occurs v a) (w v high))) (term-same a (λ v high. or-right (occurs v g) (occurs v a) (w v high)))

  pub each-same : {A B : Type 0} (P : A → Type 0) (f g : A → B) → ((a : A) → P a → f a ≡ g a) → (xs : List A) → Every P xs → map f xs ≡ map g xs
  each-same P f g e [] w = refl
  each-same P f g e (x ∷ xs) w = ap₂ (λ (y : _) (ys : List _). y ∷ ys) (e x w.0) (each-same P f g e xs w.1)

  terms-same : (ts : List Term) → Every (UsesBelow next) ts → map (vars extended) ts ≡ map (vars q) ts
  terms-same ts w = each-same (UsesBelow next) (vars extended) (vars q) term-same ts w

  assumption-same : (h : Assumption) → AssumptionBelow next h → assumption_vars extended h ≡ assumption_vars q h
  assumption-same h w = λ i. record h { head = term-same h.head w.0 i; conditions = terms-same h.conditions w.1 i; assumed = term-same h.assumed w.2 i }

  assumptions-same : (hs : List Assumption) → Every (AssumptionBelow next) hs → map (assumption_vars extended) hs ≡ map (assumption_vars q) hs
  assumptions-same hs w = each-same (AssumptionBelow next) (assumption_vars extended) (assumption_vars q) assumption-same hs w

  goal-same : (g : Goal) → GoalBelow next g → goal_vars extended g ≡ goal_vars q g
  goal-same g w = λ i. record g { assumptions = assumptions-same g.assumptions w.0 i; term = term-same g.term w.1 i }

  pub constraint-same : (c : Constraint) → ConstraintBelow next c → constraint_vars extended c ≡ constraint_vars q c
  constraint-same c w = λ i. record c { assumptions = assumptions-same c.assumptions w.0 i; term = term-same c.term w.1 i; keys = terms-same c.keys w.2 i }

-- a branch with its variables in use renamed one to one, and any next variable above them
pub used-renamed : (b : Branch) (q : ℕ → ℕ) (n : ℕ) → BranchBelow b → ((v w : ℕ) → v < b.next_var → w < b.next_var → q v ≡ q w → v ≡ w) → ((v : ℕ) → v < b.next_var → q v < n)
    → RenamedBranch b (record (branch_vars q b) { next_var = n })
used-renamed b q n w one below =
    let p = extended b.next_var n q in
    let top : n ≡ p b.next_var = let e = extended-high b.next_var n q b.next_var (omega arith) in omega arith in
    record {
      renaming = p;
      good = record { good = record { one_to_one = one-to-one b.next_var n q one below; frozen = older b.next_var n q one below }; in_order = in-order b.next_var n q one below };
      same = λ i. record b {
        goals = sym (each-same b.next_var n q (GoalBelow b.next_var) (goal_vars p) (goal_vars q) (goal-same b.next_var n q) b.goals w.0) i;
        store = sym (each-same b.next_var n q (ConstraintBelow b.next_var) (constraint_vars p) (constraint_vars q) (constraint-same b.next_var n q) b.store w.1) i;
        query = sym (terms-same b.next_var n q b.query w.2) i;
        next_var = top i;
      };
    }
