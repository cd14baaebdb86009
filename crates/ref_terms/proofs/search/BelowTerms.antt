-- Terms in which all variables are below a number, and what is made of them.
use Rattle.std.proofs.Common.{◌≡◌, ℕ, zero, suc, ◌+◌, ◌-◌, ◌≤◌, ◌<◌, Bool, true, false, cond, ◌||◌, ◌&&◌, not, nat_eq, nat_lt, List, [], ◌∷◌, ◌++◌, map, length, filter, refl, Option, Some, None, arith, eqb-true}
use Rattle.std.proofs.lemmas.Bool.{ltb-true, ltb-false}
use Rattle.ref_terms.specs.terms.Term.{Term, Lam, At, App, Head, Con, Int, Str, Name, Bound, Var}
use Rattle.ref_terms.specs.terms.Apply.{apply, fill, opened, open_with}
use Rattle.ref_terms.specs.terms.Occurs.{is_variable, occurs}
use Rattle.ref_terms.specs.terms.Instance.{only, inst}
use Rattle.ref_terms.specs.ending.Fits.{Fits, before}
use Rattle.ref_terms.specs.ending.Measure.{or_left, or_right, or_none, fits-apply, fits-fill}
use Rattle.ref_terms.specs.ending.Bounds.{less, fits-close_all, fits-keeping}
use Rattle.ref_terms.specs.unification.Spine.{head_of, args_of, apply_all}
use Rattle.ref_terms.specs.unification.Shape.{Shape, Abstraction, Redex, Rigid, Flex, headed, shape}
use Rattle.ref_terms.specs.unification.Closing.{close, close_all, names_below, keeping}
use Rattle.ref_terms.specs.search.Assumption.{Assumption}
use Rattle.ref_terms.specs.search.Lists.{item_of, before as put_before, items_of, list_term}
use Rattle.ref_terms.specs.search.Instance.{variable_under, fresh_for_variable, instance, is_parameter, fresh_for_parameter, parameter_instance}
use Rattle.ref_terms.specs.search.Joint.{joint_head, over_joint}
use Rattle.ref_terms.specs.search.BranchMove.{applied_whole}
use Rattle.ref_terms.specs.search.Used.{Every, UsesBelow}
use Rattle.ref_terms.proofs.unification.SideLemmas.{Known, known-down, fits-from}
use Rattle.ref_terms.proofs.search.TouchedLemmas.{every-append}

pub every-filter : {A : Type 0} (P : A → Type 0) (g : A → Bool) (xs : List A) → Every P xs → Every P (filter g xs)
every-filter P g [] w = tt
every-filter P g (x ∷ xs) w = go (g x) (every-filter P g xs w.1)
  where
    go : (b : Bool) → Every P (filter g xs) → Every P (cond b (x ∷ filter g xs) (filter g xs))
    go true k = (w.0, k)
    go false k = k

pub uses-more : (q r : ℕ) → q ≤ r → (t : Term) → UsesBelow q t → UsesBelow r t
uses-more q r l t w v h = w v (omega arith)

pub of-fits : (q : ℕ) (t : Term) (j : ℕ) → Fits (Known q) j t → UsesBelow q t
of-fits q (Lam b) j w v h = of-fits q b (before j) w v h
of-fits q (At (Var x)) j w v h = go (nat_eq v x) refl
  where
    go : (b : Bool) → nat_eq v x ≡ b → b ≡ false
    go true e = let same : v ≡ x = eqb-true _ _ e in let low : x < q = w in absurd (omega arith)
    go false e = refl
of-fits q (At (Con c)) j w v h = refl
of-fits q (At _) j w v h = refl
of-fits q (App f a) j w v h = or_none _ _ (of-fits q f (suc j) w.0 v h) (of-fits q a 0 w.1 v h)

pub uses-variable : (q v : ℕ) → v < q → UsesBelow q (At (Var v))
uses-variable q v l = of-fits q (At (Var v)) 0 l

pub variable-uses : (q v : ℕ) → UsesBelow q (At (Var v)) → v < q
variable-uses q v w = fits-from q (At (Var v)) 0 w

pub uses-front : (q : ℕ) (f a : Term) → UsesBelow q (App f a) → UsesBelow q f
uses-front q f a w v h = or_left (occurs v f) (occurs v a) (w v h)

pub uses-last : (q : ℕ) (f a : Term) → UsesBelow q (App f a) → UsesBelow q a
uses-last q f a w v h = or_right (occurs v f) (occurs v a) (w v h)

pub uses-app : (q : ℕ) (f a : Term) → UsesBelow q f → UsesBelow q a → UsesBelow q (App f a)
uses-app q f a u w v h = or_none (occurs v f) (occurs v a) (u v h) (w v h)

pub uses-apply : (q : ℕ) (f a : Term) → UsesBelow q f → UsesBelow q a → UsesBelow q (apply f a)
uses-apply q f a u w = of-fits q (apply f a) 0 (fits-apply (Known q) f a 0 (fits-from q f 1 u) (fits-from q a 0 w))

pub uses-fill : (q r : ℕ) (z : Head → Term) → ((h : Head) → UsesBelow q (At h) → UsesBelow r (z h)) → (t : Term) → UsesBelow q t → UsesBelow r (fill z t)
uses-fill q r z k t w = of-fits r (fill z t) 0 (fits-fill (Known q) (Known r) (known-down r) z (λ h j f. fits-from r (z h) j (k h (of-fits q (At h) j f))) t 0 (fits-from q t 0 w))

pub uses-inst : (q v : ℕ) (u t : Term) → UsesBelow q u → UsesBelow q t → UsesBelow q (inst v u t)
uses-inst q v u t k w = uses-fill q q (only v u) (λ h l. go h l (is_variable v h)) t w
  where
    go : (h : Head) → UsesBelow q (At h) → (b : Bool) → UsesBelow q (cond b u (At h))
    go h l true = k
    go h l false = l

pub uses-close_all : (q : ℕ) (ns : List ℕ) (t : Term) → UsesBelow q t → UsesBelow q (close_all ns t)
uses-close_all q ns t w = of-fits q (close_all ns t) 0 (fits-close_all (Known q) (known-down q) ns t 0 (fits-from q t (less (length ns) 0) w))

pub uses-close : (q n : ℕ) (t : Term) → UsesBelow q t → UsesBelow q (close n t)
uses-close q n t w = uses-close_all q (n ∷ []) t w

pub uses-keeping : (q n : ℕ) (ks : List ℕ) (v : ℕ) → v < q → UsesBelow q (keeping n ks v)
uses-keeping q n ks v l = of-fits q (keeping n ks v) 0 (fits-keeping (Known q) (known-down q) n ks v 0 l)

pub uses-args : (q : ℕ) (t : Term) → UsesBelow q t → Every (UsesBelow q) (args_of t)
uses-args q (Lam b) w = tt
uses-args q (At h) w = tt
uses-args q (App f a) w = every-append (UsesBelow q) (args_of f) (a ∷ []) (uses-args q f (uses-front q f a w)) (uses-last q f a w, tt)

-- so is what the shape of a term shows
abbrev pub ShapeBelow : ℕ → Shape → Type 0
ShapeBelow q (Rigid h ts) = Every (UsesBelow q) ts
ShapeBelow q (Flex v ts) = Every (UsesBelow q) ts
ShapeBelow q Abstraction = Unit {0}
ShapeBelow q Redex = Unit {0}

headed-below : (m q : ℕ) (o : Option Head) (ts : List Term) → Every (UsesBelow q) ts → ShapeBelow q (headed m o ts)
headed-below m q None ts w = tt
headed-below m q (Some (Var v)) ts w = go (nat_lt v m)
  where
    go : (b : Bool) → ShapeBelow q (cond b (Rigid (Var v) ts) (Flex v ts))
    go true = w
    go false = w
headed-below m q (Some (Con c)) ts w = w
headed-below m q (Some _) ts w = w

pub uses-shape : (m q : ℕ) (t : Term) → UsesBelow q t → ShapeBelow q (shape m t)
uses-shape m q (Lam b) w = tt
uses-shape m q (At h) w = headed-below m q (Some h) [] tt
uses-shape m q (App f a) w = headed-below m q (head_of f) (args_of f ++ a ∷ []) (uses-args q (App f a) w)

-- variables over names
uses-named : (q : ℕ) (ks : List ℕ) (t : Term) → UsesBelow q t → UsesBelow q (apply_all t (map (λ n. At (Name n)) ks))
uses-named q [] t w = w
uses-named q (k ∷ ks) t w = uses-named q ks (apply t (At (Name k))) (uses-apply q t (At (Name k)) w (λ v h. refl))

pub uses-under : (q names v : ℕ) → v < q → UsesBelow q (variable_under names v)
uses-under q names v l = uses-named q (names_below names) (At (Var v)) (uses-variable q v l)

pub uses-instance : (n names next : ℕ) (t : Term) → UsesBelow n t → UsesBelow (next + n) (instance names next t)
uses-instance n names next t w = uses-fill n (next + n) (fresh_for_variable names next) heads t w
  where
    heads : (h : Head) → UsesBelow n (At h) → UsesBelow (next + n) (fresh_for_variable names next h)
    heads (Var v) l = let low : v < n = variable-uses n v l in uses-under (next + n) names (next + v) (omega arith)
    heads (Con c) l = λ v k. refl
    heads (Int c) l = λ v k. refl
    heads (Str c) l = λ v k. refl
    heads (Name c) l = λ v k. refl
    heads (Bound c) l = λ v k. refl

pub uses-parameter : (h : Assumption) (names next : ℕ) (t : Term) → UsesBelow next t → UsesBelow (next + h.parameters) (parameter_instance h names next t)
uses-parameter h names next t w = uses-fill next (next + h.parameters) (fresh_for_parameter h names next) heads t w
  where
    inside : (n : ℕ) (a b : Bool) → nat_lt n h.scope ≡ a → nat_lt n (h.scope + h.parameters) ≡ b → UsesBelow (next + h.parameters) (cond (not a && b) (variable_under names (next + (n - h.scope))) (At (Name n)))
    inside n true b d e = λ v k. refl
    inside n false true d e =
        let high : h.scope ≤ n = ltb-false n h.scope d in
        let low : n < h.scope + h.parameters = ltb-true n (h.scope + h.parameters) e in
        uses-under (next + h.parameters) names (next + (n - h.scope)) (omega arith)
    inside n false false d e = λ v k. refl

    heads : (k : Head) → UsesBelow next (At k) → UsesBelow (next + h.parameters) (fresh_for_parameter h names next k)
    heads (Name n) l = inside n (nat_lt n h.scope) (nat_lt n (h.scope + h.parameters)) refl refl
    heads (Con c) l = λ v k. refl
    heads (Int c) l = λ v k. refl
    heads (Str c) l = λ v k. refl
    heads (Var c) l = uses-more next (next + h.parameters) (omega arith) (At (Var c)) l
    heads (Bound c) l = λ v k. refl

pub uses-whole : (q : ℕ) (f a : Term) → UsesBelow q f → UsesBelow q a → UsesBelow q (applied_whole f a)
uses-whole q (Lam b) a u w = uses-fill q q (opened a) heads b u
  where
    heads : (h : Head) → UsesBelow q (At h) → UsesBelow q (opened a h)
    heads (Bound zero) l = w
    heads (Bound (suc n)) l = λ v k. refl
    heads (Con c) l = l
    heads (Int c) l = l
    heads (Str c) l = l
    heads (Name c) l = l
    heads (Var c) l = l
uses-whole q (At h) a u w = uses-apply q (At h) a u w
uses-whole q (App f b) a u w = uses-apply q (App f b) a u w

pub uses-joint : (q : ℕ) (names : List ℕ) (t : Term) → UsesBelow q t → UsesBelow q (over_joint names t)
uses-joint q names t w = uses-fill q q (joint_head names) heads t w
  where
    heads : (h : Head) → UsesBelow q (At h) → UsesBelow q (joint_head names h)
    heads (Name n) l = λ v k. refl
    heads (Con c) l = l
    heads (Int c) l = l
    heads (Str c) l = l
    heads (Var c) l = l
    heads (Bound c) l = l

-- lists
pub uses-list : (q : ℕ) (ts : List Term) → Every (UsesBelow q) ts → UsesBelow q (list_term ts)
uses-list q [] w = λ v h. refl
uses-list q (t ∷ ts) w = uses-app q (App (At (Con 19)) t) (list_term ts) (uses-app q (At (Con 19)) t (λ v h. refl) w.0) (uses-list q ts w.1)

-- the items, where there are some
abbrev pub ItemsBelow : ℕ → Option (List Term) → Type 0
ItemsBelow q None = Unit {0}
ItemsBelow q (Some ts) = Every (UsesBelow q) ts

abbrev ItemBelow : ℕ → Option Term → Type 0
ItemBelow q None = Unit {0}
ItemBelow q (Some t) = UsesBelow q t

item-below : (q : ℕ) (t : Term) → UsesBelow q t → ItemBelow q (item_of t)
item-below q (App (At (Con c)) t) w = go (nat_eq c 19)
  where
    go : (b : Bool) → ItemBelow q (cond b (Some t) None)
    go true = uses-last q (At (Con c)) t w
    go false = tt
item-below q (App (At (Int c)) t) w = tt
item-below q (App (At (Str c)) t) w = tt
item-below q (App (At (Name c)) t) w = tt
item-below q (App (At (Bound c)) t) w = tt
item-below q (App (At (Var c)) t) w = tt
item-below q (App (Lam b) t) w = tt
item-below q (App (App f a) t) w = tt
item-below q (Lam b) w = tt
item-below q (At h) w = tt

pub uses-items : (q : ℕ) (t : Term) → UsesBelow q t → ItemsBelow q (items_of t)
uses-items q (Lam b) w = tt
uses-items q (At (Con c)) w = go (nat_eq c 18)
  where
    go : (b : Bool) → ItemsBelow q (cond b (Some []) None)
    go true = tt
    go false = tt
uses-items q (At (Int c)) w = tt
uses-items q (At (Str c)) w = tt
uses-items q (At (Name c)) w = tt
uses-items q (At (Bound c)) w = tt
uses-items q (At (Var c)) w = tt
uses-items q (App f t) w = go (item_of f) (items_of t) (item-below q f (uses-front q f t w)) (uses-items q t (uses-last q f t w))
  where
    go : (o : Option Term) (z : Option (List Term)) → ItemBelow q o → ItemsBelow q z → ItemsBelow q (put_before o z)
    go (Some a) (Some more) u v = (u, v)
    go (Some a) None u v = tt
    go None z u v = tt
