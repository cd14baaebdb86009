-- A constraint whose keys are headed by watched variables sleeps on where others get values.
use Rattle.std.proofs.Common.{◌≡◌, ℕ, Bool, true, false, cond, ◌||◌, not, nat_eq, List, [], ◌∷◌, map, refl, sym, ap, ◌∙◌, subst, Option, Some, None, arith}
use Rattle.std.specs.List.{list_any}
use Rattle.std.proofs.lemmas.Bool.{le-ltb, eqb-true, eqb-false}
use Rattle.ref_terms.specs.terms.Term.{Term, Lam, At, App, Head, Con, Int, Str, Name, Bound, Var}
use Rattle.ref_terms.specs.terms.Occurs.{is_variable}
use Rattle.ref_terms.specs.terms.Apply.{apply, fill}
use Rattle.ref_terms.specs.terms.Instance.{only, inst}
use Rattle.ref_terms.specs.unification.Spine.{args_of, head_of}
use Rattle.ref_terms.specs.unification.Shape.{Shape, Flex, headed, shape}
use Rattle.ref_terms.specs.unification.Problem.{Binding}
use Rattle.ref_terms.specs.search.Value.{shape_is_flex, is_flex}
use Rattle.ref_terms.specs.search.Branch.{Constraint, bound, bound_constraint}
use Rattle.ref_terms.specs.search.Next.{is_awake}
use Rattle.ref_terms.specs.search.Used.{Every}
use Rattle.ref_terms.specs.search.Waking.{variable_of, heading, IsWatchedKey, IsQuiet}

-- a term that is headed by a variable takes one more argument
applied-heading : (f a : Term) (w : ℕ) → heading f ≡ Some w → heading (apply f a) ≡ Some w
applied-heading (Lam b) a w e = absurd (let k : None ≡ Some w = e in cc)
applied-heading (At h) a w e = e
applied-heading (App f b) a w e = e

-- and keeps its head where another variable gets a value
head-stays : (v w : ℕ) (u : Term) (h : Head) → variable_of (Some h) ≡ Some w → nat_eq v w ≡ false → heading (only v u h) ≡ Some w
head-stays v w u (Var x) e n = go (nat_eq v x) refl
  where
    same : Some x ≡ Some w
    same = e

    go : (b : Bool) → nat_eq v x ≡ b → heading (cond (nat_eq v x) u (At (Var x))) ≡ Some w
    go true k = absurd (let z : true ≡ false = sym k ∙ other in cc)
      where
        unwrapped : Option ℕ → ℕ
        unwrapped (Some y) = y
        unwrapped None = x

        other : nat_eq v x ≡ false
        other = ap (λ (o : Option ℕ). nat_eq v (unwrapped o)) same ∙ n
    go false k = rw k e
head-stays v w u (Con c) e n = absurd (let k : None ≡ Some w = e in cc)
head-stays v w u (Int c) e n = absurd (let k : None ≡ Some w = e in cc)
head-stays v w u (Str c) e n = absurd (let k : None ≡ Some w = e in cc)
head-stays v w u (Name c) e n = absurd (let k : None ≡ Some w = e in cc)
head-stays v w u (Bound c) e n = absurd (let k : None ≡ Some w = e in cc)

pub heading-stays : (v w : ℕ) (u t : Term) → heading t ≡ Some w → nat_eq v w ≡ false → heading (inst v u t) ≡ Some w
heading-stays v w u (Lam b) e n = absurd (let k : None ≡ Some w = e in cc)
heading-stays v w u (At h) e n = head-stays v w u h e n
heading-stays v w u (App f a) e n = applied-heading (fill (only v u) f) (fill (only v u) a) w (heading-stays v w u f e n)

-- a variable for another heads what the first one headed
renamed-head : (v u : ℕ) (h : Head) → variable_of (Some h) ≡ Some v → heading (only v (At (Var u)) h) ≡ Some u
renamed-head v u (Var x) e = go (nat_eq v x) refl
  where
    same : Some x ≡ Some v
    same = e

    unwrapped : Option ℕ → ℕ
    unwrapped (Some y) = y
    unwrapped None = x

    equal : x ≡ v
    equal = ap unwrapped same

    go : (b : Bool) → nat_eq v x ≡ b → heading (cond (nat_eq v x) (At (Var u)) (At (Var x))) ≡ Some u
    go true k = rw k refl
    go false k = absurd (eqb-false v x k (sym equal))
renamed-head v u (Con c) e = absurd (let k : None ≡ Some v = e in cc)
renamed-head v u (Int c) e = absurd (let k : None ≡ Some v = e in cc)
renamed-head v u (Str c) e = absurd (let k : None ≡ Some v = e in cc)
renamed-head v u (Name c) e = absurd (let k : None ≡ Some v = e in cc)
renamed-head v u (Bound c) e = absurd (let k : None ≡ Some v = e in cc)

pub heading-renamed : (v u : ℕ) (t : Term) → heading t ≡ Some v → heading (inst v (At (Var u)) t) ≡ Some u
heading-renamed v u (Lam b) e = absurd (let k : None ≡ Some v = e in cc)
heading-renamed v u (At h) e = renamed-head v u h e
heading-renamed v u (App f a) e = applied-heading (fill (only v (At (Var u))) f) (fill (only v (At (Var u))) a) u (heading-renamed v u f e)

-- such a term is flexible
headed-flex : (o : Option Head) (ts : List Term) (w : ℕ) → variable_of o ≡ Some w → shape_is_flex (headed 0 o ts) ≡ true
headed-flex (Some (Var v)) ts w e = rw (le-ltb v 0 (omega arith)) refl
headed-flex (Some (Con c)) ts w e = absurd (let k : None ≡ Some w = e in cc)
headed-flex (Some (Int c)) ts w e = absurd (let k : None ≡ Some w = e in cc)
headed-flex (Some (Str c)) ts w e = absurd (let k : None ≡ Some w = e in cc)
headed-flex (Some (Name c)) ts w e = absurd (let k : None ≡ Some w = e in cc)
headed-flex (Some (Bound c)) ts w e = absurd (let k : None ≡ Some w = e in cc)
headed-flex None ts w e = absurd (let k : None ≡ Some w = e in cc)

pub heading-flex : (t : Term) (w : ℕ) → heading t ≡ Some w → is_flex t ≡ true
heading-flex (Lam b) w e = absurd (let k : None ≡ Some w = e in cc)
heading-flex (At h) w e = headed-flex (Some h) [] w e
heading-flex (App f a) w e = headed-flex (head_of f) (args_of (App f a)) w e

pub quiet-sleeps : (watched : ℕ → Bool) (c : Constraint) → IsQuiet watched c.keys → is_awake c ≡ false
quiet-sleeps watched c w = go c.keys w
  where
    go : (ks : List Term) → IsQuiet watched ks → list_any (λ k. not (is_flex k)) ks ≡ false
    go [] u = refl
    go (k ∷ ks) u = ap (λ (b : Bool). not b || list_any (λ x. not (is_flex x)) ks) (heading-flex k u.0.0 u.0.1) ∙ go ks u.1

-- no binding of a watched variable changes what heads a key
watched-apart : (watched : ℕ → Bool) (v w : ℕ) → watched v ≡ false → watched w ≡ true → nat_eq v w ≡ false
watched-apart watched v w e f = go (nat_eq v w) refl
  where
    go : (b : Bool) → nat_eq v w ≡ b → nat_eq v w ≡ false
    go true k = absurd (let z : false ≡ true = sym e ∙ ap watched (eqb-true v w k) ∙ f in cc)
    go false k = k

pub key-stays : (watched : ℕ → Bool) (bs : List Binding) (k : Term) → Every (λ b. watched b.variable ≡ false) bs → IsWatchedKey watched k → IsWatchedKey watched (bound bs k)
key-stays watched [] k w u = u
key-stays watched (b ∷ bs) k w u =
    let z = key-stays watched bs k w.1 u in
    (z.0, heading-stays b.variable z.0 b.value (bound bs k) z.1 (watched-apart watched b.variable z.0 w.0 z.2), z.2)

pub quiet-stays : (watched : ℕ → Bool) (bs : List Binding) (ks : List Term) → Every (λ b. watched b.variable ≡ false) bs → IsQuiet watched ks → IsQuiet watched (map (bound bs) ks)
quiet-stays watched bs [] w u = tt
quiet-stays watched bs (k ∷ ks) w u = (key-stays watched bs k w u.0, quiet-stays watched bs ks w u.1)

pub sleeps-on : (watched : ℕ → Bool) (bs : List Binding) (c : Constraint) → Every (λ b. watched b.variable ≡ false) bs → IsQuiet watched c.keys → is_awake (bound_constraint bs c) ≡ false
sleeps-on watched bs c w u = quiet-sleeps watched (bound_constraint bs c) (quiet-stays watched bs c.keys w u)
