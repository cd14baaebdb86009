-- What keeps each tuple that isn't refused among those that hold a pair.
use Rattle.std.proofs.Common.{◌≡◌, ℕ, suc, ◌+◌, ◌≤◌, ◌<◌, length, Bool, true, false, ◌||◌, ◌&&◌, not, nat_eq, nat_lt, cond, List, [], ◌∷◌, ◌++◌, map, flat_map, filter, refl, sym, ap, ap₂, ◌∙◌, subst, Option, Some, None, arith}
use Rattle.std.specs.List.{list_any, list_all}
use Rattle.std.proofs.lemmas.List.{map-append, append_assoc}
use Rattle.std.proofs.lemmas.List.Elements.{filter-append}
use Rattle.std.proofs.lemmas.Bool.{lt-ltb, ltb-true, ltb-false, eqb-true, eqb-false}
use Rattle.ref_terms.specs.terms.Term.{Term, Lam, At, App, Head, Con, Int, Str, Name, Bound, Var}
use Rattle.ref_terms.specs.terms.Built.{IsBuilt}
use Rattle.ref_terms.specs.terms.Occurs.{is_variable, occurs}
use Rattle.ref_terms.specs.terms.Instance.{only, inst}
use Rattle.ref_terms.specs.terms.Renamed.{vars, vars_head}
use Rattle.ref_terms.specs.lemmas.OccursLemmas.{AgreeBut, fill-agree, inst_absent}
use Rattle.ref_terms.specs.ending.Measure.{fill-renames}
use Rattle.ref_terms.specs.unification.Problem.{Binding}
use Rattle.ref_terms.specs.unification.Unification.{Unification}
use Rattle.ref_terms.specs.search.Fault.{Judged, Good, Bad}
use Rattle.ref_terms.specs.search.Program.{Rule}
use Rattle.ref_terms.specs.search.Assumption.{Assumption}
use Rattle.ref_terms.specs.search.Branch.{Constraint, Fired, Branch, bound, bound_assumption, bound_constraint, bound_branch}
use Rattle.ref_terms.specs.search.RuleMatch.{heads_of, fit_heads}
use Rattle.ref_terms.specs.search.RuleInstance.{Firing, numbers_eq, is_fired, admitted, rule_instance, after_firing}
use Rattle.ref_terms.specs.search.Next.{is_awake, woken}
use Rattle.ref_terms.specs.search.FirstRule.{picks, tuples, or_later, first_tuple, first_firing}
use Rattle.ref_terms.specs.search.Renamed.{assumption_vars, constraint_vars, branch_vars}
use Rattle.ref_terms.specs.search.Alike.{IsRenamingAt}
use Rattle.ref_terms.specs.search.Used.{Every, UsesBelow, AssumptionBelow, ConstraintBelow}
use Rattle.ref_terms.specs.search.Touched.{Pairs, holds_pair, IsLeftOut, AllTouched, IsRefusedSince, AllRefused, first_touched, assumption_has, constraint_has, is_touched, AssumptionBuilt, ConstraintBuilt, IsSoundConstraint}
use Rattle.ref_terms.proofs.search.Fair.{IsFair, Outcome}
use Rattle.ref_terms.proofs.search.ListVars.{map-square}
use Rattle.ref_terms.proofs.search.RuleInstanceVars.{RenamedFiring, rule-instance-vars}
use Rattle.ref_terms.proofs.search.UsedVars.{extended, extended-low, extended-high, one-to-one, older, in-order, each-same, constraint-same}

-- lists of which each item is so
pub every-append : {A : Type 0} (P : A → Type 0) (xs ys : List A) → Every P xs → Every P ys → Every P (xs ++ ys)
every-append P [] ys u w = w
every-append P (x ∷ xs) ys u w = (u.0, every-append P xs ys u.1 w)

every-append-left : {A : Type 0} (P : A → Type 0) (xs ys : List A) → Every P (xs ++ ys) → Every P xs
every-append-left P [] ys w = tt
every-append-left P (x ∷ xs) ys w = (w.0, every-append-left P xs ys w.1)

every-append-right : {A : Type 0} (P : A → Type 0) (xs ys : List A) → Every P (xs ++ ys) → Every P ys
every-append-right P [] ys w = w
every-append-right P (x ∷ xs) ys w = every-append-right P xs ys w.1

pub every-weaker : {A : Type 0} (P Q : A → Type 0) → ((a : A) → P a → Q a) → (xs : List A) → Every P xs → Every Q xs
every-weaker P Q h [] w = tt
every-weaker P Q h (x ∷ xs) w = (h x w.0, every-weaker P Q h xs w.1)

every-both : {A : Type 0} (P Q R : A → Type 0) → ((a : A) → P a → Q a → R a) → (xs : List A) → Every P xs → Every Q xs → Every R xs
every-both P Q R h [] u w = tt
every-both P Q R h (x ∷ xs) u w = (h x u.0 w.0, every-both P Q R h xs u.1 w.1)

pub every-mapped : {A B : Type 0} (P : B → Type 0) (f : A → B) (xs : List A) → Every (λ a. P (f a)) xs → Every P (map f xs)
every-mapped P f [] w = tt
every-mapped P f (x ∷ xs) w = (w.0, every-mapped P f xs w.1)

every-of-mapped : {A B : Type 0} (P : B → Type 0) (f : A → B) (xs : List A) → Every P (map f xs) → Every (λ a. P (f a)) xs
every-of-mapped P f [] w = tt
every-of-mapped P f (x ∷ xs) w = (w.0, every-of-mapped P f xs w.1)

every-flat : {A B : Type 0} (P : B → Type 0) (f : A → List B) (xs : List A) → Every (λ a. Every P (f a)) xs → Every P (flat_map f xs)
every-flat P f [] w = tt
every-flat P f (x ∷ xs) w = every-append P (f x) (flat_map f xs) w.0 (every-flat P f xs w.1)

every-of-flat : {A B : Type 0} (P : B → Type 0) (f : A → List B) (xs : List A) → Every P (flat_map f xs) → Every (λ a. Every P (f a)) xs
every-of-flat P f [] w = tt
every-of-flat P f (x ∷ xs) w = (every-append-left P (f x) (flat_map f xs) w, every-of-flat P f xs (every-append-right P (f x) (flat_map f xs) w))

-- what holds of all constraints holds of those of each tuple
module _ (Q : Constraint → Type 0) where
  every-pick : (before cs : List Constraint) → Every Q before → Every Q cs → Every (λ p. Q p.0 × Every Q p.1) (picks before cs)
  every-pick before [] u w = tt
  every-pick before (c ∷ cs) u w = ((w.0, every-append Q before cs u w.1), every-pick (before ++ c ∷ []) cs (every-append Q before (c ∷ []) u (w.0, tt)) w.1)

  pub every-tuple : {H : Type 0} (hs : List H) (store : List Constraint) → Every Q store → Every (Every Q) (tuples hs store)
  every-tuple [] store w = (tt, tt)
  every-tuple (h ∷ hs) store w = every-flat (Every Q) (λ p. map (λ cs. p.0 ∷ cs) (tuples hs p.1)) (picks [] store)
      (every-weaker (λ p. Q p.0 × Every Q p.1) (λ p. Every (Every Q) (map (λ cs. p.0 ∷ cs) (tuples hs p.1)))
      (λ p u. every-mapped (Every Q) (λ cs. p.0 ∷ cs) (tuples hs p.1) (every-weaker (Every Q) (λ cs. Q p.0 × Every Q cs) (λ cs z. (u.0, z)) (tuples hs p.1) (every-tuple hs p.1 u.1)))
      (picks [] store) (every-pick [] store tt w))

-- tuples of constraints that are changed one by one
flat-square : {A B C D : Type 0} (f : B → List D) (k : A → B) (h : C → D) (g : A → List C) → ((a : A) → f (k a) ≡ map h (g a)) → (xs : List A) → flat_map f (map k xs) ≡ map h (flat_map g xs)
flat-square f k h g e [] = refl
flat-square f k h g e (x ∷ xs) = ap₂ (λ (a b : List _). a ++ b) (e x) (flat-square f k h g e xs) ∙ sym (map-append h (g x) (flat_map g xs))

module _ (f : Constraint → Constraint) where
  abbrev changed_pick : Constraint × List Constraint → Constraint × List Constraint
  changed_pick q = (f q.0, map f q.1)

  picks-changed : (before cs : List Constraint) → picks (map f before) (map f cs) ≡ map changed_pick (picks before cs)
  picks-changed before [] = refl
  picks-changed before (c ∷ cs) =
      ap₂ (λ (others : List Constraint) (qs : List (Constraint × List Constraint)). (f c, others) ∷ qs) (sym (map-append f before cs))
      (ap (λ (zs : List Constraint). picks zs (map f cs)) (sym (map-append f before (c ∷ []))) ∙ picks-changed (before ++ c ∷ []) cs)

  tuples-changed : {H : Type 0} (hs : List H) (store : List Constraint) → tuples hs (map f store) ≡ map (map f) (tuples hs store)
  tuples-changed [] store = refl
  tuples-changed (h ∷ hs) store =
      ap (flat_map (λ q. map (λ cs. q.0 ∷ cs) (tuples hs q.1))) (picks-changed [] store)
      ∙ flat-square (λ q. map (λ cs. q.0 ∷ cs) (tuples hs q.1)) changed_pick (map f) (λ q. map (λ cs. q.0 ∷ cs) (tuples hs q.1))
      (λ q. ap (map (λ cs. f q.0 ∷ cs)) (tuples-changed hs q.1) ∙ sym (map-square (map f) (λ cs. q.0 ∷ cs) (λ cs. f q.0 ∷ cs) (map f) (λ cs. refl) (tuples hs q.1)))
      (picks [] store)

-- a refused tuple stays so where more variables have been made
vars-same : (t : Term) → vars (λ v. v) t ≡ t
vars-same (Lam b) = ap Lam (vars-same b)
vars-same (At (Con c)) = refl
vars-same (At (Int c)) = refl
vars-same (At (Var v)) = refl
vars-same (At _) = refl
vars-same (App f a) = ap₂ App (vars-same f) (vars-same a)

each-itself : {A : Type 0} (f : A → A) → ((a : A) → f a ≡ a) → (xs : List A) → map f xs ≡ xs
each-itself f e [] = refl
each-itself f e (x ∷ xs) = ap₂ (λ (y : _) (ys : List _). y ∷ ys) (e x) (each-itself f e xs)

assumption-itself : (h : Assumption) → assumption_vars (λ v. v) h ≡ h
assumption-itself h = λ i. record h { head = vars-same h.head i; conditions = each-itself (vars (λ v. v)) vars-same h.conditions i; assumed = vars-same h.assumed i }

constraint-itself : (c : Constraint) → constraint_vars (λ v. v) c ≡ c
constraint-itself c = λ i. record c { assumptions = each-itself (assumption_vars (λ v. v)) assumption-itself c.assumptions i; term = vars-same c.term i; keys = each-itself (vars (λ v. v)) vars-same c.keys i }

none-stays : {A : Type 0} (R : A → A → Type 0) (o z : Option (Judged A)) → Outcome R o z → o ≡ None → z ≡ None
none-stays R None None w e = refl
none-stays R None (Some (Good a)) w e = elim w [ ]
none-stays R None (Some (Bad a)) w e = elim w [ ]
none-stays R (Some j) z w e = absurd (let k : Some j ≡ None = e in cc)

pub refused-later : (unify : Unification) → IsFair unify → (branch : Branch) (n : ℕ) → branch.next_var ≤ n → (place : ℕ) (r : Rule) (cs : List Constraint) → Every (ConstraintBelow branch.next_var) cs
    → rule_instance unify branch place r cs ≡ None → rule_instance unify (record branch { next_var = n }) place r cs ≡ None
refused-later unify fair branch n high place r cs below e =
    let q : ℕ → ℕ = λ v. v in
    let p : ℕ → ℕ = extended branch.next_var n q in
    let one : (v w : ℕ) → v < branch.next_var → w < branch.next_var → q v ≡ q w → v ≡ w = λ v w _ _ z. z in
    let low : (v : ℕ) → v < branch.next_var → q v < n = λ v z. omega arith in
    let good : IsRenamingAt branch.next_var p = record { good = record { one_to_one = one-to-one branch.next_var n q one low; frozen = older branch.next_var n q one low }; in_order = in-order branch.next_var n q one low } in
    let top : p branch.next_var ≡ n = let z = extended-high branch.next_var n q branch.next_var (omega arith) in omega arith in
    let same : map (constraint_vars p) cs ≡ cs = each-same branch.next_var n q (ConstraintBelow branch.next_var) (constraint_vars p) (constraint_vars q) (constraint-same branch.next_var n q) cs below ∙ each-itself (constraint_vars q) constraint-itself cs in
    none-stays (RenamedFiring p branch.next_var) (rule_instance unify branch place r cs) (rule_instance unify (record branch { next_var = n }) place r cs)
    (subst (λ (z : List Constraint). Outcome (RenamedFiring p branch.next_var) (rule_instance unify branch place r cs) (rule_instance unify (record branch { next_var = n }) place r z)) same
    (subst (λ (m : ℕ). Outcome (RenamedFiring p branch.next_var) (rule_instance unify branch place r cs) (rule_instance unify (record branch { next_var = m }) place r (map (constraint_vars p) cs))) top
    (rule-instance-vars unify fair p branch good place r cs)))
    e

-- and where more has fired
and-false : (b : Bool) → false ≡ (b && false)
and-false true = refl
and-false false = refl

one-more-fired : (x y b : Bool) (f : Fired) (fs : List Fired) (g : Fired) → (not (is_fired f (fs ++ g ∷ [])) && x) ≡ (y && (not (is_fired f fs) && x)) → (not (b || is_fired f (fs ++ g ∷ [])) && x) ≡ (y && (not (b || is_fired f fs) && x))
one-more-fired x y true f fs g e = and-false y
one-more-fired x y false f fs g e = e

fired-first : (x b : Bool) → (not (b || false) && x) ≡ (not (b || false) && (true && x))
fired-first x b = refl

is-fired-later : (x : Bool) (f : Fired) (fs : List Fired) (g : Fired) → (not (is_fired f (fs ++ g ∷ [])) && x) ≡ (not (is_fired f (g ∷ [])) && (not (is_fired f fs) && x))
is-fired-later x f [] g = refl
is-fired-later x f (h ∷ fs) g = one-more-fired x (not (is_fired f (g ∷ []))) (nat_eq f.rule h.rule && numbers_eq f.constraints h.constraints) f fs g (is-fired-later x f fs g)

admitted-less : (unify : Unification) (next : ℕ) (r : Rule) (f : Fired) (cs : List Constraint) (y x : Bool) → admitted unify next r f cs x ≡ None → admitted unify next r f cs (y && x) ≡ None
admitted-less unify next r f cs true x e = e
admitted-less unify next r f cs false x e = refl

pub refused-when-fired : (unify : Unification) (branch : Branch) (g : Fired) (place : ℕ) (r : Rule) (cs : List Constraint) → rule_instance unify branch place r cs ≡ None
    → rule_instance unify (record branch { fired = branch.fired ++ g ∷ [] }) place r cs ≡ None
refused-when-fired unify branch g place r cs e =
    let f : Fired = record { rule = place; constraints = map (λ c. c.number) cs } in
    ap (admitted unify branch.next_var r f cs) (is-fired-later (fit_heads (heads_of r) cs) f branch.fired g)
    ∙ admitted-less unify branch.next_var r f cs (not (is_fired f (g ∷ []))) (not (is_fired f branch.fired) && fit_heads (heads_of r) cs) e

-- a bound variable that doesn't stand in a term makes no difference
or-left : (a b : Bool) → (a || b) ≡ false → a ≡ false
or-left true b e = e
or-left false b e = refl

or-right : (a b : Bool) → (a || b) ≡ false → b ≡ false
or-right true b e = absurd (let z : true ≡ false = e in cc)
or-right false b e = e

any-not : {A : Type 0} (f : A → Bool) (xs : List A) → list_any f xs ≡ false → Every (λ x. f x ≡ false) xs
any-not f [] e = tt
any-not f (x ∷ xs) e = (or-left (f x) (list_any f xs) e, any-not f xs (or-right (f x) (list_any f xs) e))

bound-absent : (bs : List Binding) (t : Term) → IsBuilt t → Every (λ b. occurs b.variable t ≡ false) bs → bound bs t ≡ t
bound-absent [] t w e = refl
bound-absent (b ∷ bs) t w e = ap (inst b.variable b.value) (bound-absent bs t w e.1) ∙ inst_absent b.variable b.value t w e.0

each-kept : {A : Type 0} (P : A → Type 0) (f : A → A) → ((a : A) → P a → f a ≡ a) → (xs : List A) → Every P xs → map f xs ≡ xs
each-kept P f e [] w = refl
each-kept P f e (x ∷ xs) w = ap₂ (λ (y : _) (ys : List _). y ∷ ys) (e x w.0) (each-kept P f e xs w.1)

-- none of the bound variables stands in it
abbrev Free : {A : Type 0} → (ℕ → A → Bool) → List Binding → A → Type 0
Free has bs a = Every (λ b. has b.variable a ≡ false) bs

free-of-list : {A : Type 0} (has : ℕ → A → Bool) (bs : List Binding) (xs : List A) → Every (λ b. list_any (has b.variable) xs ≡ false) bs → Every (Free has bs) xs
free-of-list has bs [] w = tt
free-of-list has bs (x ∷ xs) w = (
  every-weaker (λ b. list_any (has b.variable) (x ∷ xs) ≡ false) (λ b. has b.variable x ≡ false) (λ b e. or-left (has b.variable x) (list_any (has b.variable) xs) e) bs w,
  free-of-list has bs xs (every-weaker (λ b. list_any (has b.variable) (x ∷ xs) ≡ false) (λ b. list_any (has b.variable) xs ≡ false) (λ b e. or-right (has b.variable x) (list_any (has b.variable) xs) e) bs w),
)

terms-absent : (bs : List Binding) (ts : List Term) → Every IsBuilt ts → Every (Free occurs bs) ts → map (bound bs) ts ≡ ts
terms-absent bs ts u w = each-kept (λ t. IsBuilt t × Free occurs bs t) (bound bs) (λ t z. bound-absent bs t z.0 z.1) ts
    (every-both IsBuilt (Free occurs bs) (λ t. IsBuilt t × Free occurs bs t) (λ t a b. (a, b)) ts u w)

assumption-absent : (bs : List Binding) (h : Assumption) → AssumptionBuilt h → Free assumption_has bs h → bound_assumption bs h ≡ h
assumption-absent bs h u w =
    let both : Every (λ b. (occurs b.variable h.head || list_any (occurs b.variable) h.conditions) ≡ false) bs =
    every-weaker _ _ (λ b e. or-left (occurs b.variable h.head || list_any (occurs b.variable) h.conditions) (occurs b.variable h.assumed) e) bs w in
    let heads : Every (λ b. occurs b.variable h.head ≡ false) bs = every-weaker _ _ (λ b e. or-left (occurs b.variable h.head) (list_any (occurs b.variable) h.conditions) e) bs both in
    let conditions : Every (λ b. list_any (occurs b.variable) h.conditions ≡ false) bs = every-weaker _ _ (λ b e. or-right (occurs b.variable h.head) (list_any (occurs b.variable) h.conditions) e) bs both in
    let assumed : Every (λ b. occurs b.variable h.assumed ≡ false) bs = every-weaker _ _ (λ b e. or-right (occurs b.variable h.head || list_any (occurs b.variable) h.conditions) (occurs b.variable h.assumed) e) bs w in
    λ i. record h { head = bound-absent bs h.head u.0 heads i; conditions = terms-absent bs h.conditions u.1 (free-of-list occurs bs h.conditions conditions) i; assumed = bound-absent bs h.assumed u.2 assumed i }

pub untouched-stays : (bs : List Binding) (c : Constraint) → ConstraintBuilt c → is_touched bs c ≡ false → bound_constraint bs c ≡ c
untouched-stays bs c u e =
    let w : Free constraint_has bs c = any-not (λ b. constraint_has b.variable c) bs e in
    let both : Every (λ b. (list_any (assumption_has b.variable) c.assumptions || occurs b.variable c.term) ≡ false) bs =
    every-weaker _ _ (λ b z. or-left (list_any (assumption_has b.variable) c.assumptions || occurs b.variable c.term) (list_any (occurs b.variable) c.keys) z) bs w in
    let hs : Every (λ b. list_any (assumption_has b.variable) c.assumptions ≡ false) bs = every-weaker _ _ (λ b z. or-left (list_any (assumption_has b.variable) c.assumptions) (occurs b.variable c.term) z) bs both in
    let t : Every (λ b. occurs b.variable c.term ≡ false) bs = every-weaker _ _ (λ b z. or-right (list_any (assumption_has b.variable) c.assumptions) (occurs b.variable c.term) z) bs both in
    let ks : Every (λ b. list_any (occurs b.variable) c.keys ≡ false) bs = every-weaker _ _ (λ b z. or-right (list_any (assumption_has b.variable) c.assumptions || occurs b.variable c.term) (list_any (occurs b.variable) c.keys) z) bs w in
    λ i. record c {
      assumptions = each-kept (λ h. AssumptionBuilt h × Free assumption_has bs h) (bound_assumption bs) (λ h z. assumption-absent bs h z.0 z.1) c.assumptions
          (every-both AssumptionBuilt (Free assumption_has bs) (λ h. AssumptionBuilt h × Free assumption_has bs h) (λ h a b. (a, b)) c.assumptions u.0 (free-of-list assumption_has bs c.assumptions hs)) i;
      term = bound-absent bs c.term u.1 t i;
      keys = terms-absent bs c.keys u.2 (free-of-list occurs bs c.keys ks) i;
    }

-- pairs that are kept
or-true : (a b : Bool) → b ≡ true → (a || b) ≡ true
or-true true b e = refl
or-true false b e = e

not-both : {A : Type 0} (b : Bool) → b ≡ true → b ≡ false → A
not-both b e f = absurd (let k : true ≡ false = sym e ∙ f in cc)

fewer-pairs : (pairs more : Pairs) → ((place number : ℕ) → pairs place number ≡ true → more place number ≡ true) → (place : ℕ) (cs : List Constraint) → holds_pair more place cs ≡ false → holds_pair pairs place cs ≡ false
fewer-pairs pairs more keeps place [] e = refl
fewer-pairs pairs more keeps place (c ∷ cs) e = go (pairs place c.number) refl (fewer-pairs pairs more keeps place cs (or-right (more place c.number) (holds_pair more place cs) e))
  where
    go : (b : Bool) → pairs place c.number ≡ b → holds_pair pairs place cs ≡ false → (pairs place c.number || holds_pair pairs place cs) ≡ false
    go true k z = not-both (more place c.number) (keeps place c.number k) (or-left (more place c.number) (holds_pair more place cs) e)
    go false k z = ap (λ (b : Bool). b || holds_pair pairs place cs) k ∙ z

-- after a move's bindings
module _ (unify : Unification) (fair : IsFair unify) (branch : Branch) (bs : List Binding) (n : ℕ) (high : branch.next_var ≤ n) (pairs more : Pairs) (count : ℕ)
    (keeps : (place number : ℕ) → pairs place number ≡ true → more place number ≡ true) where
  -- it is sound, and has its pairs where a bound variable stands in it
  abbrev IsTold : Constraint → Type 0
  IsTold c = IsSoundConstraint branch.next_var c × (is_touched bs c ≡ true → (place : ℕ) → place < count → more place c.number ≡ true)

  told-stays : (place : ℕ) → place < count → (c : Constraint) → IsTold c → more place c.number ≡ false → bound_constraint bs c ≡ c
  told-stays place low c w e = go (is_touched bs c) refl
    where
      go : (b : Bool) → is_touched bs c ≡ b → bound_constraint bs c ≡ c
      go true k = not-both (more place c.number) (w.1 k place low) e
      go false k = untouched-stays bs c w.0.0 k

  tuple-stays : (place : ℕ) → place < count → (cs : List Constraint) → Every IsTold cs → holds_pair more place (map (bound_constraint bs) cs) ≡ false → map (bound_constraint bs) cs ≡ cs
  tuple-stays place low [] w e = refl
  tuple-stays place low (c ∷ cs) w e = ap₂ (λ (d : Constraint) (ds : List Constraint). d ∷ ds)
      (told-stays place low c w.0 (or-left (more place c.number) (holds_pair more place (map (bound_constraint bs) cs)) e))
      (tuple-stays place low cs w.1 (or-right (more place c.number) (holds_pair more place (map (bound_constraint bs) cs)) e))

  left-out-stays : (place : ℕ) → place < count → (r : Rule) (cs : List Constraint) → IsLeftOut unify branch pairs place r cs → Every IsTold cs → IsLeftOut unify (bound_branch bs n branch) more place r (map (bound_constraint bs) cs)
  left-out-stays place low r cs u w e =
      let same : map (bound_constraint bs) cs ≡ cs = tuple-stays place low cs w e in
      let none : holds_pair pairs place cs ≡ false = fewer-pairs pairs more keeps place cs (ap (holds_pair more place) (sym same) ∙ e) in
      ap (rule_instance unify (record branch { next_var = n }) place r) same
      ∙ refused-later unify fair branch n high place r cs (every-weaker IsTold (ConstraintBelow branch.next_var) (λ c z. z.0.1) cs w) (u none)

  pub touched-after-bindings : Every IsTold branch.store → (place : ℕ) (rs : List Rule) → place + length rs ≤ count → AllTouched unify branch pairs place rs → AllTouched unify (bound_branch bs n branch) more place rs
  touched-after-bindings told place [] low w = tt
  touched-after-bindings told place (r ∷ rs) low w = (
    subst (λ (css : List (List Constraint)). Every (IsLeftOut unify (bound_branch bs n branch) more place r) css) (sym (tuples-changed (bound_constraint bs) (heads_of r) branch.store))
        (every-mapped (IsLeftOut unify (bound_branch bs n branch) more place r) (map (bound_constraint bs)) (tuples (heads_of r) branch.store)
        (every-both (IsLeftOut unify branch pairs place r) (Every IsTold) (λ cs. IsLeftOut unify (bound_branch bs n branch) more place r (map (bound_constraint bs) cs))
        (left-out-stays place (omega arith) r) (tuples (heads_of r) branch.store) w.0 (every-tuple IsTold (heads_of r) branch.store told))),
    touched-after-bindings told (suc place) rs (omega arith) w.1,
  )

-- the first instance is among the tuples that hold a pair
first-tuple-touched : (unify : Unification) (branch : Branch) (pairs : Pairs) (place : ℕ) (r : Rule) (css : List (List Constraint)) → Every (IsLeftOut unify branch pairs place r) css
    → first_tuple unify branch place r (filter (holds_pair pairs place) css) ≡ first_tuple unify branch place r css
first-tuple-touched unify branch pairs place r [] w = refl
first-tuple-touched unify branch pairs place r (cs ∷ css) w = go (first-tuple-touched unify branch pairs place r css w.1) (holds_pair pairs place cs) refl
  where
    go : first_tuple unify branch place r (filter (holds_pair pairs place) css) ≡ first_tuple unify branch place r css → (b : Bool) → holds_pair pairs place cs ≡ b
        → first_tuple unify branch place r (filter (holds_pair pairs place) (cs ∷ css)) ≡ first_tuple unify branch place r (cs ∷ css)
    go rest true e = rw e (ap (or_later (rule_instance unify branch place r cs)) rest)
    go rest false e = rw e (rest ∙ sym (ap (λ (o : Option (Judged Firing)). or_later o (first_tuple unify branch place r css)) (w.0 e)))

pub first-touched-is-first : (unify : Unification) (branch : Branch) (pairs : Pairs) (place : ℕ) (rs : List Rule) → AllTouched unify branch pairs place rs → first_touched unify branch pairs place rs ≡ first_firing unify branch place rs
first-touched-is-first unify branch pairs place [] w = refl
first-touched-is-first unify branch pairs place (r ∷ rs) w = ap₂ or_later (first-tuple-touched unify branch pairs place r (tuples (heads_of r) branch.store) w.0) (first-touched-is-first unify branch pairs (suc place) rs w.1)

every-all : {A : Type 0} (P : A → Type 0) → ((a : A) → P a) → (xs : List A) → Every P xs
every-all P h [] = tt
every-all P h (x ∷ xs) = (h x, every-all P h xs)

-- one more constraint, last in the store: each tuple has it, or is one of the others
picks-added : (G : Constraint × List Constraint → Type 0) (c : Constraint) → ((d : Constraint) (ds : List Constraint) → G (d, ds) → G (d, ds ++ c ∷ [])) → (before cs : List Constraint) → G (c, before ++ cs) → Every G (picks before cs) → Every G (picks before (cs ++ c ∷ []))
picks-added G c longer before [] new w = (new, tt)
picks-added G c longer before (d ∷ ds) new w = (
  subst (λ (z : List Constraint). G (d, z)) (append_assoc before ds (c ∷ [])) (longer d (before ++ ds) w.0),
  picks-added G c longer (before ++ d ∷ []) ds (subst (λ (z : List Constraint). G (c, z)) (sym (append_assoc before (d ∷ []) ds)) new) w.1,
)

module _ (E : List Constraint → Type 0) (c : Constraint) (here : (cs : List Constraint) → E (c ∷ cs)) (there : (d : Constraint) (cs : List Constraint) → E cs → E (d ∷ cs)) where
  tuples-added : {H : Type 0} (hs : List H) (P : List Constraint → Type 0) → ((cs : List Constraint) → E cs → P cs) → (store : List Constraint) → Every P (tuples hs store) → Every P (tuples hs (store ++ c ∷ []))
  tuples-added [] P h store w = w
  tuples-added (k ∷ hs) P h store w =
      let G : Constraint × List Constraint → Type 0 = λ q. Every P (map (λ cs. q.0 ∷ cs) (tuples hs q.1)) in
      every-flat P (λ q. map (λ cs. q.0 ∷ cs) (tuples hs q.1)) (picks [] (store ++ c ∷ []))
      (picks-added G c
      (λ d ds u. every-mapped P (λ cs. d ∷ cs) (tuples hs (ds ++ c ∷ [])) (tuples-added hs (λ cs. P (d ∷ cs)) (λ cs e. h (d ∷ cs) (there d cs e)) ds (every-of-mapped P (λ cs. d ∷ cs) (tuples hs ds) u)))
      [] store (every-mapped P (λ cs. c ∷ cs) (tuples hs store) (every-all (λ cs. P (c ∷ cs)) (λ cs. h (c ∷ cs) (here cs)) (tuples hs store)))
      (every-of-flat P (λ q. map (λ cs. q.0 ∷ cs) (tuples hs q.1)) (picks [] store) w))

pub touched-after-adding : (unify : Unification) (branch : Branch) (pairs more : Pairs) (c : Constraint) (count : ℕ) → ((place number : ℕ) → pairs place number ≡ true → more place number ≡ true)
    → ((place : ℕ) → place < count → more place c.number ≡ true) → (place : ℕ) (rs : List Rule) → place + length rs ≤ count
    → AllTouched unify branch pairs place rs → AllTouched unify (record branch { store = branch.store ++ c ∷ [] }) more place rs
touched-after-adding unify branch pairs more c count keeps new place [] low w = tt
touched-after-adding unify branch pairs more c count keeps new place (r ∷ rs) low w = (
  tuples-added (λ cs. holds_pair more place cs ≡ true) c (λ cs. or-first (more place c.number) (holds_pair more place cs) (new place (omega arith))) (λ d cs e. or-true (more place d.number) (holds_pair more place cs) e)
      (heads_of r) (IsLeftOut unify branch more place r) (λ cs e f. not-both (holds_pair more place cs) e f) branch.store
      (every-weaker (IsLeftOut unify branch pairs place r) (IsLeftOut unify branch more place r) (λ cs u e. u (fewer-pairs pairs more keeps place cs e)) (tuples (heads_of r) branch.store) w.0),
  touched-after-adding unify branch pairs more c count keeps new (suc place) rs (omega arith) w.1,
)
  where
    or-first : (a b : Bool) → a ≡ true → (a || b) ≡ true
    or-first true b e = refl
    or-first false b e = absurd (let k : true ≡ false = sym e in cc)

-- constraints leave: each tuple of the others was one before
module _ (g : Constraint → Bool) where
  filter-last : (before : List Constraint) (d : Constraint) (b : Bool) → g d ≡ b → filter g (before ++ d ∷ []) ≡ (filter g before ++ cond b (d ∷ []) [])
  filter-last before d b e = filter-append g before (d ∷ []) ∙ ap (λ (x : Bool). filter g before ++ cond x (d ∷ []) []) e

  no-more : (xs : List Constraint) → xs ++ [] ≡ xs
  no-more [] = refl
  no-more (x ∷ xs) = ap (λ (ys : List Constraint). x ∷ ys) (no-more xs)

  picks-filtered : (G : Constraint × List Constraint → Type 0) → ((d : Constraint) (ds : List Constraint) → G (d, ds) → G (d, filter g ds)) → (before cs : List Constraint) → Every G (picks before cs) → Every G (picks (filter g before) (filter g cs))
  picks-filtered G fewer before [] w = tt
  picks-filtered G fewer before (d ∷ ds) w = go (g d) refl (picks-filtered G fewer (before ++ d ∷ []) ds w.1)
    where
      go : (b : Bool) → g d ≡ b → Every G (picks (filter g (before ++ d ∷ [])) (filter g ds)) → Every G (picks (filter g before) (filter g (d ∷ ds)))
      go true e u = rw e (
        subst (λ (z : List Constraint). G (d, z)) (filter-append g before ds) (fewer d (before ++ ds) w.0),
        subst (λ (z : List Constraint). Every G (picks z (filter g ds))) (filter-last before d true e) u,
      )
      go false e u = rw e (subst (λ (z : List Constraint). Every G (picks z (filter g ds))) (filter-last before d false e ∙ no-more (filter g before)) u)

  tuples-filtered : {H : Type 0} (hs : List H) (P : List Constraint → Type 0) (store : List Constraint) → Every P (tuples hs store) → Every P (tuples hs (filter g store))
  tuples-filtered [] P store w = w
  tuples-filtered (k ∷ hs) P store w =
      let G : Constraint × List Constraint → Type 0 = λ q. Every P (map (λ cs. q.0 ∷ cs) (tuples hs q.1)) in
      every-flat P (λ q. map (λ cs. q.0 ∷ cs) (tuples hs q.1)) (picks [] (filter g store))
      (picks-filtered G (λ d ds u. every-mapped P (λ cs. d ∷ cs) (tuples hs (filter g ds)) (tuples-filtered hs (λ cs. P (d ∷ cs)) ds (every-of-mapped P (λ cs. d ∷ cs) (tuples hs ds) u)))
      [] store (every-of-flat P (λ q. map (λ cs. q.0 ∷ cs) (tuples hs q.1)) (picks [] store) w))

pub touched-after-leaving : (unify : Unification) (branch : Branch) (pairs : Pairs) (g : Constraint → Bool) (place : ℕ) (rs : List Rule) → AllTouched unify branch pairs place rs → AllTouched unify (record branch { store = filter g branch.store }) pairs place rs
touched-after-leaving unify branch pairs g place [] w = tt
touched-after-leaving unify branch pairs g place (r ∷ rs) w = (tuples-filtered g (heads_of r) (IsLeftOut unify branch pairs place r) branch.store w.0, touched-after-leaving unify branch pairs g (suc place) rs w.1)

pub touched-after-firing : (unify : Unification) (branch : Branch) (pairs : Pairs) (f : Fired) (place : ℕ) (rs : List Rule) → AllTouched unify branch pairs place rs → AllTouched unify (record branch { fired = branch.fired ++ f ∷ [] }) pairs place rs
touched-after-firing unify branch pairs f place [] w = tt
touched-after-firing unify branch pairs f place (r ∷ rs) w = (
  every-weaker (IsLeftOut unify branch pairs place r) (IsLeftOut unify (record branch { fired = branch.fired ++ f ∷ [] }) pairs place r) (λ cs u e. refused-when-fired unify branch f place r cs (u e)) (tuples (heads_of r) branch.store) w.0,
  touched-after-firing unify branch pairs f (suc place) rs w.1,
)

-- a dropped pair: where all tuples that hold it are refused
pub touched-after-dropping : (unify : Unification) (branch : Branch) (pairs fewer : Pairs) (place : ℕ) (rs : List Rule) → AllTouched unify branch pairs place rs
    → AllRefused unify branch pairs fewer place rs → AllTouched unify branch fewer place rs
touched-after-dropping unify branch pairs fewer place [] w u = tt
touched-after-dropping unify branch pairs fewer place (r ∷ rs) w u = (
  every-both (IsLeftOut unify branch pairs place r) (IsRefusedSince unify branch pairs fewer place r) (IsLeftOut unify branch fewer place r)
      (λ cs a b e. go cs a b e (holds_pair pairs place cs) refl) (tuples (heads_of r) branch.store) w.0 u.0,
  touched-after-dropping unify branch pairs fewer (suc place) rs w.1 u.1,
)
  where
    go : (cs : List Constraint) → IsLeftOut unify branch pairs place r cs → IsRefusedSince unify branch pairs fewer place r cs → holds_pair fewer place cs ≡ false → (b : Bool) → holds_pair pairs place cs ≡ b → rule_instance unify branch place r cs ≡ None
    go cs a b e true k = b k e
    go cs a b e false k = a k

-- a variable gets another one as its value: only a tuple that has both may be refused no longer
eq-true : (a b : ℕ) → a ≡ b → nat_eq a b ≡ true
eq-true a b e = go (nat_eq a b) refl
  where
    go : (x : Bool) → nat_eq a b ≡ x → nat_eq a b ≡ true
    go true k = k
    go false k = absurd (eqb-false a b k e)

apart : (a b : ℕ) → a < b → nat_eq a b ≡ false
apart a b low = go (nat_eq a b) refl
  where
    go : (x : Bool) → nat_eq a b ≡ x → nat_eq a b ≡ false
    go false k = k
    go true k = absurd (let e = eqb-true a b k in omega arith)

swapped : ℕ → ℕ → ℕ → ℕ
swapped v u w = cond (nat_eq v w) u (cond (nat_eq u w) v w)

module _ (v u : ℕ) where
  swapped-first : swapped v u v ≡ u
  unfolding swapped
  swapped-first = rw (eq-true v v refl) refl

  swapped-second : swapped v u u ≡ v
  unfolding swapped
  swapped-second = go (nat_eq v u) refl
    where
      go : (b : Bool) → nat_eq v u ≡ b → cond (nat_eq v u) u (cond (nat_eq u u) v u) ≡ v
      go true e = rw e (sym (eqb-true v u e))
      go false e = rw (e, eq-true u u refl) refl

  swapped-other : (w : ℕ) → nat_eq v w ≡ false → nat_eq u w ≡ false → swapped v u w ≡ w
  unfolding swapped
  swapped-other w e f = rw (e, f) refl

  swapped-back : (w : ℕ) → swapped v u (swapped v u w) ≡ w
  swapped-back w = go (nat_eq v w) refl (nat_eq u w) refl
    where
      go : (b : Bool) → nat_eq v w ≡ b → (c : Bool) → nat_eq u w ≡ c → swapped v u (swapped v u w) ≡ w
      go true e c f = subst (λ (x : ℕ). swapped v u (swapped v u x) ≡ x) (eqb-true v w e) (ap (swapped v u) swapped-first ∙ swapped-second)
      go false e true f = subst (λ (x : ℕ). swapped v u (swapped v u x) ≡ x) (eqb-true u w f) (ap (swapped v u) swapped-second ∙ swapped-first)
      go false e false f = ap (swapped v u) (swapped-other w e f) ∙ swapped-other w e f

  swapped-one : (a b : ℕ) → nat_eq (swapped v u a) (swapped v u b) ≡ nat_eq a b
  swapped-one a b = go (nat_eq (swapped v u a) (swapped v u b)) refl (nat_eq a b) refl
    where
      go : (x : Bool) → nat_eq (swapped v u a) (swapped v u b) ≡ x → (y : Bool) → nat_eq a b ≡ y → nat_eq (swapped v u a) (swapped v u b) ≡ nat_eq a b
      go true e true f = e ∙ sym f
      go false e false f = e ∙ sym f
      go true e false f = absurd (eqb-false a b f (sym (swapped-back a) ∙ ap (swapped v u) (eqb-true (swapped v u a) (swapped v u b) e) ∙ swapped-back b))
      go false e true f = absurd (eqb-false (swapped v u a) (swapped v u b) e (ap (swapped v u) (eqb-true a b f)))

  module _ (n : ℕ) (low : v < n) (low' : u < n) where
    swapped-high : (w : ℕ) → n ≤ w → swapped v u w ≡ w
    swapped-high w high = swapped-other w (apart v w (omega arith)) (apart u w (omega arith))

    swapped-low : (w : ℕ) → w < n → swapped v u w < n
    swapped-low w below = go (nat_eq v w) refl (nat_eq u w) refl
      where
        go : (b : Bool) → nat_eq v w ≡ b → (c : Bool) → nat_eq u w ≡ c → swapped v u w < n
        go true e c f = let z : swapped v u w ≡ u = subst (λ (x : ℕ). swapped v u x ≡ u) (eqb-true v w e) swapped-first in omega arith
        go false e true f = let z : swapped v u w ≡ v = subst (λ (x : ℕ). swapped v u x ≡ v) (eqb-true u w f) swapped-second in omega arith
        go false e false f = let z : swapped v u w ≡ w = swapped-other w e f in omega arith

    swapped-older : (w : ℕ) → nat_lt (swapped v u w) n ≡ nat_lt w n
    swapped-older w = go (nat_lt w n) refl
      where
        go : (b : Bool) → nat_lt w n ≡ b → nat_lt (swapped v u w) n ≡ nat_lt w n
        go true e = lt-ltb (swapped v u w) n (swapped-low w (ltb-true w n e)) ∙ sym e
        go false e = ap (λ (x : ℕ). nat_lt x n) (swapped-high w (ltb-false w n e))

    swapped-good : IsRenamingAt n (swapped v u)
    swapped-good = record {
      good = record { one_to_one = swapped-one; frozen = λ w. ap (nat_lt (swapped v u w)) (swapped-high n (omega arith)) ∙ swapped-older w };
      in_order = λ k high. swapped-high (suc k) (omega arith) ∙ ap suc (sym (swapped-high k high));
    }

  -- of a term that doesn't have the second variable
  swapped-head : (h : Head) → is_variable u h ≡ false → only v (At (Var u)) h ≡ At (vars_head (swapped v u) h)
  swapped-head (Var w) e = go (nat_eq v w) refl
    where
      go : (b : Bool) → nat_eq v w ≡ b → cond (nat_eq v w) (At (Var u)) (At (Var w)) ≡ At (Var (swapped v u w))
      go true k = rw k (ap (λ (x : ℕ). At (Var x)) (subst (λ (x : ℕ). u ≡ swapped v u x) (eqb-true v w k) (sym swapped-first)))
      go false k = rw k (ap (λ (x : ℕ). At (Var x)) (sym (swapped-other w k e)))
  swapped-head (Con c) e = refl
  swapped-head (Int c) e = refl
  swapped-head (Str c) e = refl
  swapped-head (Name c) e = refl
  swapped-head (Bound c) e = refl

  swapped-term : (t : Term) → IsBuilt t → occurs u t ≡ false → inst v (At (Var u)) t ≡ vars (swapped v u) t
  unfolding AgreeBut
  swapped-term t w e = fill-agree u (only v (At (Var u))) (λ h. At (vars_head (swapped v u) h)) swapped-head t e ∙ fill-renames (swapped v u) t w

  -- the binding of the first variable to the second
  abbrev to_second : List Binding
  to_second = record { variable = v; value = At (Var u) } ∷ []

  each-swapped : {A : Type 0} (P : A → Type 0) (f g : A → A) → ((a : A) → P a → f a ≡ g a) → (xs : List A) → Every P xs → map f xs ≡ map g xs
  each-swapped P f g e [] w = refl
  each-swapped P f g e (x ∷ xs) w = ap₂ (λ (y : _) (ys : List _). y ∷ ys) (e x w.0) (each-swapped P f g e xs w.1)

  terms-swapped : (ts : List Term) → Every IsBuilt ts → Every (λ t. occurs u t ≡ false) ts → map (bound to_second) ts ≡ map (vars (swapped v u)) ts
  terms-swapped ts a b = each-swapped (λ t. IsBuilt t × (occurs u t ≡ false)) (bound to_second) (vars (swapped v u)) (λ t z. swapped-term t z.0 z.1) ts
      (every-both IsBuilt (λ t. occurs u t ≡ false) (λ t. IsBuilt t × (occurs u t ≡ false)) (λ t x y. (x, y)) ts a b)

  assumption-swapped : (h : Assumption) → AssumptionBuilt h → assumption_has u h ≡ false → bound_assumption to_second h ≡ assumption_vars (swapped v u) h
  assumption-swapped h a e =
      let both = or-left (occurs u h.head || list_any (occurs u) h.conditions) (occurs u h.assumed) e in
      λ i. record h {
        head = swapped-term h.head a.0 (or-left (occurs u h.head) (list_any (occurs u) h.conditions) both) i;
        conditions = terms-swapped h.conditions a.1 (any-not (occurs u) h.conditions (or-right (occurs u h.head) (list_any (occurs u) h.conditions) both)) i;
        assumed = swapped-term h.assumed a.2 (or-right (occurs u h.head || list_any (occurs u) h.conditions) (occurs u h.assumed) e) i;
      }

  constraint-swapped : (c : Constraint) → ConstraintBuilt c → constraint_has u c ≡ false → bound_constraint to_second c ≡ constraint_vars (swapped v u) c
  constraint-swapped c a e =
      let both = or-left (list_any (assumption_has u) c.assumptions || occurs u c.term) (list_any (occurs u) c.keys) e in
      λ i. record c {
        assumptions = each-swapped (λ h. AssumptionBuilt h × (assumption_has u h ≡ false)) (bound_assumption to_second) (assumption_vars (swapped v u)) (λ h z. assumption-swapped h z.0 z.1) c.assumptions
            (every-both AssumptionBuilt (λ h. assumption_has u h ≡ false) (λ h. AssumptionBuilt h × (assumption_has u h ≡ false)) (λ h x y. (x, y)) c.assumptions a.0
            (any-not (assumption_has u) c.assumptions (or-left (list_any (assumption_has u) c.assumptions) (occurs u c.term) both))) i;
        term = swapped-term c.term a.1 (or-right (list_any (assumption_has u) c.assumptions) (occurs u c.term) both) i;
        keys = terms-swapped c.keys a.2 (any-not (occurs u) c.keys (or-right (list_any (assumption_has u) c.assumptions || occurs u c.term) (list_any (occurs u) c.keys) e)) i;
      }

module _ (unify : Unification) (fair : IsFair unify) (branch : Branch) (v u n : ℕ) (high : branch.next_var ≤ n) (low : v < n) (low' : u < n) (pairs more : Pairs) (count : ℕ)
    (keeps : (place number : ℕ) → pairs place number ≡ true → more place number ≡ true) where
  -- it is sound, and has its pairs where the second variable stands in it
  abbrev IsMet : Constraint → Type 0
  IsMet c = IsSoundConstraint branch.next_var c × (constraint_has u c ≡ true → (place : ℕ) → place < count → more place c.number ≡ true)

  met-swapped : (place : ℕ) → place < count → (c : Constraint) → IsMet c → more place c.number ≡ false → bound_constraint (to_second v u) c ≡ constraint_vars (swapped v u) c
  met-swapped place few c w e = go (constraint_has u c) refl
    where
      go : (b : Bool) → constraint_has u c ≡ b → bound_constraint (to_second v u) c ≡ constraint_vars (swapped v u) c
      go true k = not-both (more place c.number) (w.1 k place few) e
      go false k = constraint-swapped v u c w.0.0 k

  met-tuple : (place : ℕ) → place < count → (cs : List Constraint) → Every IsMet cs → holds_pair more place (map (bound_constraint (to_second v u)) cs) ≡ false → map (bound_constraint (to_second v u)) cs ≡ map (constraint_vars (swapped v u)) cs
  met-tuple place few [] w e = refl
  met-tuple place few (c ∷ cs) w e = ap₂ (λ (d : Constraint) (ds : List Constraint). d ∷ ds)
      (met-swapped place few c w.0 (or-left (more place c.number) (holds_pair more place (map (bound_constraint (to_second v u)) cs)) e))
      (met-tuple place few cs w.1 (or-right (more place c.number) (holds_pair more place (map (bound_constraint (to_second v u)) cs)) e))

  same-pairs : (place : ℕ) (cs : List Constraint) → holds_pair more place (map (bound_constraint (to_second v u)) cs) ≡ holds_pair more place cs
  same-pairs place [] = refl
  same-pairs place (c ∷ cs) = ap (λ (b : Bool). more place c.number || b) (same-pairs place cs)

  met-left-out : (place : ℕ) → place < count → (r : Rule) (cs : List Constraint) → IsLeftOut unify branch pairs place r cs → Every IsMet cs → IsLeftOut unify (bound_branch (to_second v u) n branch) more place r (map (bound_constraint (to_second v u)) cs)
  met-left-out place few r cs a w e =
      let later : Branch = record branch { next_var = n } in
      let none : holds_pair pairs place cs ≡ false = fewer-pairs pairs more keeps place cs (sym (same-pairs place cs) ∙ e) in
      let refused : rule_instance unify later place r cs ≡ None = refused-later unify fair branch n high place r cs (every-weaker IsMet (ConstraintBelow branch.next_var) (λ c z. z.0.1) cs w) (a none) in
      let top : swapped v u n ≡ n = swapped-high v u n low low' n (omega arith) in
      ap (rule_instance unify later place r) (met-tuple place few cs w e)
      ∙ subst (λ (m : ℕ). rule_instance unify (record branch { next_var = m }) place r (map (constraint_vars (swapped v u)) cs) ≡ None) top
      (none-stays (RenamedFiring (swapped v u) n) (rule_instance unify later place r cs) (rule_instance unify (branch_vars (swapped v u) later) place r (map (constraint_vars (swapped v u)) cs))
      (rule-instance-vars unify fair (swapped v u) later (swapped-good v u n low low') place r cs) refused)

  pub touched-after-renaming : Every IsMet branch.store → (place : ℕ) (rs : List Rule) → place + length rs ≤ count → AllTouched unify branch pairs place rs → AllTouched unify (bound_branch (to_second v u) n branch) more place rs
  touched-after-renaming met place [] few w = tt
  touched-after-renaming met place (r ∷ rs) few w = (
    subst (λ (css : List (List Constraint)). Every (IsLeftOut unify (bound_branch (to_second v u) n branch) more place r) css) (sym (tuples-changed (bound_constraint (to_second v u)) (heads_of r) branch.store))
        (every-mapped (IsLeftOut unify (bound_branch (to_second v u) n branch) more place r) (map (bound_constraint (to_second v u))) (tuples (heads_of r) branch.store)
        (every-both (IsLeftOut unify branch pairs place r) (Every IsMet) (λ cs. IsLeftOut unify (bound_branch (to_second v u) n branch) more place r (map (bound_constraint (to_second v u)) cs))
        (met-left-out place (omega arith) r) (tuples (heads_of r) branch.store) w.0 (every-tuple IsMet (heads_of r) branch.store met))),
    touched-after-renaming met (suc place) rs (omega arith) w.1,
  )

-- a row of rule moves
pub refused-after-firing : (unify : Unification) → IsFair unify → (branch : Branch) (barrier : ℕ) (f : Firing) (place : ℕ) (r : Rule) (cs : List Constraint) → branch.next_var ≤ f.next_var → Every (ConstraintBelow branch.next_var) cs
    → rule_instance unify branch place r cs ≡ None → rule_instance unify (after_firing branch barrier f) place r cs ≡ None
refused-after-firing unify fair branch barrier f place r cs high below e =
    refused-later unify fair (record branch { fired = branch.fired ++ f.fired ∷ [] }) f.next_var high place r cs below (refused-when-fired unify branch f.fired place r cs e)

numbers-same : (ns : List ℕ) → numbers_eq ns ns ≡ true
numbers-same [] = refl
numbers-same (n ∷ ns) = ap₂ (λ (a b : Bool). a && b) (eq-true n n refl) (numbers-same ns)

fired-last : (f : Fired) (fs : List Fired) → is_fired f (fs ++ f ∷ []) ≡ true
fired-last f [] = ap₂ (λ (a b : Bool). (a && b) || false) (eq-true f.rule f.rule refl) (numbers-same f.constraints)
fired-last f (g ∷ fs) = or-true (nat_eq f.rule g.rule && numbers_eq f.constraints g.constraints) (is_fired f (fs ++ f ∷ [])) (fired-last f fs)

pub fired-is-refused : (unify : Unification) (branch : Branch) (barrier : ℕ) (f : Firing) (place : ℕ) (r : Rule) (cs : List Constraint) → f.fired ≡ record { rule = place; constraints = map (λ c. c.number) cs }
    → rule_instance unify (after_firing branch barrier f) place r cs ≡ None
fired-is-refused unify branch barrier f place r cs e =
    let g : Fired = record { rule = place; constraints = map (λ c. c.number) cs } in
    ap (λ (h : Fired). admitted unify f.next_var r g cs (not (is_fired g (branch.fired ++ h ∷ [])) && fit_heads (heads_of r) cs)) e
    ∙ ap (λ (b : Bool). admitted unify f.next_var r g cs (not b && fit_heads (heads_of r) cs)) (fired-last g branch.fired)

-- the condition looks at the store, at what has fired, and at the next variable
same-instance : (unify : Unification) (b c : Branch) → c.fired ≡ b.fired → c.next_var ≡ b.next_var → (place : ℕ) (r : Rule) (cs : List Constraint) → rule_instance unify c place r cs ≡ rule_instance unify b place r cs
same-instance unify b c f n place r cs =
    let g : Fired = record { rule = place; constraints = map (λ d. d.number) cs } in
    ap₂ (λ (fs : List Fired) (m : ℕ). admitted unify m r g cs (not (is_fired g fs) && fit_heads (heads_of r) cs)) f n

pub touched-of-fields : (unify : Unification) (b c : Branch) → c.store ≡ b.store → c.fired ≡ b.fired → c.next_var ≡ b.next_var → (pairs : Pairs) (place : ℕ) (rs : List Rule) → AllTouched unify b pairs place rs → AllTouched unify c pairs place rs
touched-of-fields unify b c s f n pairs place [] w = tt
touched-of-fields unify b c s f n pairs place (r ∷ rs) w = (
  subst (λ (cs : List Constraint). Every (IsLeftOut unify c pairs place r) (tuples (heads_of r) cs)) (sym s)
      (every-weaker (IsLeftOut unify b pairs place r) (IsLeftOut unify c pairs place r) (λ cs u e. same-instance unify b c f n place r cs ∙ u e) (tuples (heads_of r) b.store) w.0),
  touched-of-fields unify b c s f n pairs (suc place) rs w.1,
)

pub touched-later : (unify : Unification) → IsFair unify → (branch : Branch) (n : ℕ) → branch.next_var ≤ n → Every (ConstraintBelow branch.next_var) branch.store → (pairs : Pairs) (place : ℕ) (rs : List Rule)
    → AllTouched unify branch pairs place rs → AllTouched unify (record branch { next_var = n }) pairs place rs
touched-later unify fair branch n high below pairs place [] w = tt
touched-later unify fair branch n high below pairs place (r ∷ rs) w = (
  every-both (IsLeftOut unify branch pairs place r) (Every (ConstraintBelow branch.next_var)) (IsLeftOut unify (record branch { next_var = n }) pairs place r)
      (λ cs u b e. refused-later unify fair branch n high place r cs b (u e)) (tuples (heads_of r) branch.store) w.0 (every-tuple (ConstraintBelow branch.next_var) (heads_of r) branch.store below),
  touched-later unify fair branch n high below pairs (suc place) rs w.1,
)

-- a whole rule move
pub touched-after-rule : (unify : Unification) → IsFair unify → (branch : Branch) (barrier : ℕ) (f : Firing) → branch.next_var ≤ f.next_var → Every (ConstraintBelow branch.next_var) branch.store → (pairs : Pairs) (rs : List Rule)
    → AllTouched unify branch pairs 0 rs → AllTouched unify (after_firing branch barrier f) pairs 0 rs
touched-after-rule unify fair branch barrier f high below pairs rs w =
    let later : Branch = record branch { next_var = f.next_var } in
    let noted : Branch = record later { fired = later.fired ++ f.fired ∷ [] } in
    let stays : Constraint → Bool = λ c. not (list_any (nat_eq c.number) f.removed) in
    touched-of-fields unify (record noted { store = filter stays noted.store }) (after_firing branch barrier f) refl refl refl pairs 0 rs
    (touched-after-leaving unify noted pairs stays 0 rs (touched-after-firing unify later pairs f.fired 0 rs (touched-later unify fair branch f.next_var high below pairs 0 rs w)))

-- a waking move
pub touched-after-waking : (unify : Unification) (branch : Branch) (barrier : ℕ) (up : List Constraint) (pairs : Pairs) (rs : List Rule) → AllTouched unify branch pairs 0 rs → AllTouched unify (woken branch barrier up) pairs 0 rs
touched-after-waking unify branch barrier up pairs rs w =
    let stays : Constraint → Bool = λ c. not (is_awake c) in
    touched-of-fields unify (record branch { store = filter stays branch.store }) (woken branch barrier up) refl refl refl pairs 0 rs (touched-after-leaving unify branch pairs stays 0 rs w)

-- renamed variables
same-pairs-vars : (p : ℕ → ℕ) (pairs : Pairs) (place : ℕ) (cs : List Constraint) → holds_pair pairs place (map (constraint_vars p) cs) ≡ holds_pair pairs place cs
same-pairs-vars p pairs place [] = refl
same-pairs-vars p pairs place (c ∷ cs) = ap (λ (b : Bool). pairs place c.number || b) (same-pairs-vars p pairs place cs)

pub touched-renamed : (unify : Unification) → IsFair unify → (branch : Branch) (p : ℕ → ℕ) → IsRenamingAt branch.next_var p → (pairs : Pairs) (place : ℕ) (rs : List Rule) → AllTouched unify branch pairs place rs → AllTouched unify (branch_vars p branch) pairs place rs
touched-renamed unify fair branch p good pairs place [] w = tt
touched-renamed unify fair branch p good pairs place (r ∷ rs) w = (
  subst (λ (css : List (List Constraint)). Every (IsLeftOut unify (branch_vars p branch) pairs place r) css) (sym (tuples-changed (constraint_vars p) (heads_of r) branch.store))
      (every-mapped (IsLeftOut unify (branch_vars p branch) pairs place r) (map (constraint_vars p)) (tuples (heads_of r) branch.store)
      (every-weaker (IsLeftOut unify branch pairs place r) (λ cs. IsLeftOut unify (branch_vars p branch) pairs place r (map (constraint_vars p) cs))
      (λ cs u e. none-stays (RenamedFiring p branch.next_var) (rule_instance unify branch place r cs) (rule_instance unify (branch_vars p branch) place r (map (constraint_vars p) cs)) (rule-instance-vars unify fair p branch good place r cs) (u (sym (same-pairs-vars p pairs place cs) ∙ e)))
      (tuples (heads_of r) branch.store) w.0)),
  touched-renamed unify fair branch p good pairs (suc place) rs w.1,
)

-- tuples of the constraints that stay are the tuples whose constraints all stay, in the same order
filter-flat : {A B : Type 0} (p : B → Bool) (f : A → List B) (xs : List A) → filter p (flat_map f xs) ≡ flat_map (λ x. filter p (f x)) xs
filter-flat p f [] = refl
filter-flat p f (x ∷ xs) = filter-append p (f x) (flat_map f xs) ∙ ap (λ (ys : List _). filter p (f x) ++ ys) (filter-flat p f xs)

module _ (g : Constraint → Bool) where
  abbrev fewer_others : Constraint × List Constraint → Constraint × List Constraint
  fewer_others q = (q.0, filter g q.1)

  with-first : (c : Constraint) (css : List (List Constraint)) (b : Bool) → g c ≡ b → filter (list_all g) (map (λ cs. c ∷ cs) css) ≡ cond b (map (λ cs. c ∷ cs) (filter (list_all g) css)) []
  with-first c [] true e = refl
  with-first c [] false e = refl
  with-first c (cs ∷ css) true e = rw e (one (list_all g cs) (with-first c css true e))
    where
      one : (a : Bool) → filter (list_all g) (map (λ ds. c ∷ ds) css) ≡ map (λ ds. c ∷ ds) (filter (list_all g) css)
          → cond a ((c ∷ cs) ∷ filter (list_all g) (map (λ ds. c ∷ ds) css)) (filter (list_all g) (map (λ ds. c ∷ ds) css)) ≡ map (λ ds. c ∷ ds) (cond a (cs ∷ filter (list_all g) css) (filter (list_all g) css))
      one true z = ap (λ (ys : List (List Constraint)). (c ∷ cs) ∷ ys) z
      one false z = z
  with-first c (cs ∷ css) false e = rw e (with-first c css false e)

  -- the picks of what stays, in a list that is made of them
  flat-picks : {B : Type 0} (F : Constraint × List Constraint → List B) (before cs : List Constraint) → flat_map F (picks (filter g before) (filter g cs)) ≡ flat_map (λ q. cond (g q.0) (F (fewer_others q)) []) (picks before cs)
  flat-picks F before [] = refl
  flat-picks F before (d ∷ ds) = one (g d) refl (flat-picks F (before ++ d ∷ []) ds)
    where
      one : (b : Bool) → g d ≡ b → flat_map F (picks (filter g (before ++ d ∷ [])) (filter g ds)) ≡ flat_map (λ q. cond (g q.0) (F (fewer_others q)) []) (picks (before ++ d ∷ []) ds)
          → flat_map F (picks (filter g before) (cond b (d ∷ filter g ds) (filter g ds))) ≡ (cond b (F (fewer_others (d, before ++ ds))) []) ++ flat_map (λ q. cond (g q.0) (F (fewer_others q)) []) (picks (before ++ d ∷ []) ds)
      one true e z = ap₂ (λ (a b : List _). a ++ b) (ap (λ (xs : List Constraint). F (d, xs)) (sym (filter-append g before ds)))
          (ap (λ (xs : List Constraint). flat_map F (picks xs (filter g ds))) (sym (filter-last g before d true e)) ∙ z)
      one false e z = ap (λ (xs : List Constraint). flat_map F (picks xs (filter g ds))) (sym (filter-last g before d false e ∙ no-more g (filter g before))) ∙ z

  flat-each : {A B : Type 0} (f h : A → List B) → ((a : A) → f a ≡ h a) → (xs : List A) → flat_map f xs ≡ flat_map h xs
  flat-each f h e [] = refl
  flat-each f h e (x ∷ xs) = ap₂ (λ (a b : List _). a ++ b) (e x) (flat-each f h e xs)

  pub tuples-of-filtered : {H : Type 0} (hs : List H) (store : List Constraint) → tuples hs (filter g store) ≡ filter (list_all g) (tuples hs store)
  tuples-of-filtered [] store = refl
  tuples-of-filtered (h ∷ hs) store =
      flat-picks (λ q. map (λ cs. q.0 ∷ cs) (tuples hs q.1)) [] store
      ∙ flat-each (λ q. cond (g q.0) (map (λ cs. q.0 ∷ cs) (tuples hs (filter g q.1))) []) (λ q. filter (list_all g) (map (λ cs. q.0 ∷ cs) (tuples hs q.1)))
      (λ q. ap (λ (css : List (List Constraint)). cond (g q.0) (map (λ cs. q.0 ∷ cs) css) []) (tuples-of-filtered hs q.1) ∙ sym (with-first q.0 (tuples hs q.1) (g q.0) refl))
      (picks [] store)
      ∙ sym (filter-flat (list_all g) (λ q. map (λ cs. q.0 ∷ cs) (tuples hs q.1)) (picks [] store))

-- refused tuples at the front make no difference
skip-refused : (unify : Unification) (branch : Branch) (place : ℕ) (r : Rule) (xs ys : List (List Constraint)) → Every (λ cs. rule_instance unify branch place r cs ≡ None) xs → first_tuple unify branch place r (xs ++ ys) ≡ first_tuple unify branch place r ys
skip-refused unify branch place r [] ys w = refl
skip-refused unify branch place r (x ∷ xs) ys w = ap₂ or_later w.0 (skip-refused unify branch place r xs ys w.1)

-- the search goes on after the tuple that fired
pub rest-after-firing : (unify : Unification) → IsFair unify → (branch : Branch) (barrier : ℕ) (f : Firing) (place : ℕ) (r : Rule) (before : List (List Constraint)) (cs : List Constraint) (after : List (List Constraint))
    → branch.next_var ≤ f.next_var → Every (ConstraintBelow branch.next_var) branch.store → tuples (heads_of r) branch.store ≡ before ++ cs ∷ after → Every (λ ds. rule_instance unify branch place r ds ≡ None) before
    → f.fired ≡ record { rule = place; constraints = map (λ c. c.number) cs }
    → first_tuple unify (after_firing branch barrier f) place r (tuples (heads_of r) (after_firing branch barrier f).store) ≡ first_tuple unify (after_firing branch barrier f) place r (filter (list_all (λ c. not (list_any (nat_eq c.number) f.removed))) after)
rest-after-firing unify fair branch barrier f place r before cs after high below split refused e =
    let stays : Constraint → Bool = λ c. not (list_any (nat_eq c.number) f.removed) in
    let later : Branch = after_firing branch barrier f in
    let all : Every (Every (ConstraintBelow branch.next_var)) (before ++ cs ∷ after) = subst (λ (css : List (List Constraint)). Every (Every (ConstraintBelow branch.next_var)) css) split (every-tuple (ConstraintBelow branch.next_var) (heads_of r) branch.store below) in
    let still : Every (λ ds. rule_instance unify later place r ds ≡ None) before =
    every-both (λ ds. rule_instance unify branch place r ds ≡ None) (Every (ConstraintBelow branch.next_var)) (λ ds. rule_instance unify later place r ds ≡ None)
    (λ ds u b. refused-after-firing unify fair branch barrier f place r ds high b u) before refused (every-append-left (Every (ConstraintBelow branch.next_var)) before (cs ∷ after) all) in
    ap (first_tuple unify later place r) (tuples-of-filtered stays (heads_of r) branch.store ∙ ap (filter (list_all stays)) split ∙ filter-append (list_all stays) before (cs ∷ after))
    ∙ skip-refused unify later place r (filter (list_all stays) before) (filter (list_all stays) (cs ∷ after)) (filtered (list_all stays) (λ ds. rule_instance unify later place r ds ≡ None) before still)
    ∙ one (list_all stays cs) (filter (list_all stays) after)
  where
    filtered : (p : List Constraint → Bool) (P : List Constraint → Type 0) (xs : List (List Constraint)) → Every P xs → Every P (filter p xs)
    filtered p P [] w = tt
    filtered p P (x ∷ xs) w = go (p x) (filtered p P xs w.1)
      where
        go : (b : Bool) → Every P (filter p xs) → Every P (cond b (x ∷ filter p xs) (filter p xs))
        go true u = (w.0, u)
        go false u = u

    one : (b : Bool) (rest : List (List Constraint)) → first_tuple unify (after_firing branch barrier f) place r (cond b (cs ∷ rest) rest) ≡ first_tuple unify (after_firing branch barrier f) place r rest
    one true rest = ap (λ (o : Option (Judged Firing)). or_later o (first_tuple unify (after_firing branch barrier f) place r rest)) (fired-is-refused unify branch barrier f place r cs e)
    one false rest = refl
