-- Reading clauses: however many forms may be read, as long as they are enough.
use Rattle.std.proofs.Common.{◌≡◌, ℕ, zero, suc, ◌+◌, ◌≤◌, List, [], ◌∷◌, ◌++◌, Bool, true, false, cond, nat_lt, Option, Some, None, refl, sym, ap, ap₂, ◌∙◌, arith, map, append-nil, append_assoc}
use Rattle.ref_terms.specs.terms.Term.{Term, Lam, At, App, Head, Con, Int, Str, Name, Bound, Var}
use Rattle.ref_terms.specs.terms.Index.{sub, ren, under, first, next, up}
use Rattle.ref_terms.specs.terms.Apply.{apply}
use Rattle.ref_terms.specs.terms.Ready.{ready}
use Rattle.ref_terms.specs.unification.Shape.{Shape, Abstraction, Redex as RedexShape, Rigid, Flex, shape, headed}
use Rattle.ref_terms.specs.unification.Spine.{apply_all, args_of, head_of}
use Rattle.ref_terms.specs.declared.reserved.Reserved.{Reserved}
use Rattle.ref_terms.specs.declared.reserved.Reserved.TheVariants.{And as And_word, Implies as Implies_word, If as If_word, Pi as Pi_word, Nonvar as Nonvar_word, Distinct as Distinct_word}
use Rattle.ref_terms.specs.search.Reserved.{word_of, if_term, implies_term}
use Rattle.ref_terms.specs.search.Fault.{Judged, Bad, judged_map, judged_append}
use Rattle.ref_terms.specs.declared.fault.Fault.TheVariants.{NotGoal}
use Rattle.ref_terms.specs.search.Assumption.{Assumption, guarded, quantified, clause_form, clause_at, constants, read_at}
use Rattle.ref_terms.specs.lemmas.ReadyFacts.{ready-name}

-- the constants of terms
abbrev pub total : List Term → ℕ
total [] = 0
total (t ∷ ts) = constants t + total ts

total-append : (xs ys : List Term) → total (xs ++ ys) ≡ total xs + total ys
total-append [] ys = omega arith
total-append (x ∷ xs) ys = let k = total-append xs ys in omega arith

-- terms without constants
abbrev AreBare : (ℕ → Term) → Type 0
AreBare s = (i : ℕ) → constants (s i) ≡ 0

constants-ren : (f : ℕ → ℕ) (t : Term) → constants (ren f t) ≡ constants t
constants-ren f (Lam b) = constants-ren (up f) b
constants-ren f (At (Con c)) = refl
constants-ren f (At (Int c)) = refl
constants-ren f (At (Str c)) = refl
constants-ren f (At (Name c)) = refl
constants-ren f (At (Bound c)) = refl
constants-ren f (At (Var c)) = refl
constants-ren f (App g a) = ap₂ (λ (m n : ℕ). m + n) (constants-ren f g) (constants-ren f a)

bare-under : (s : ℕ → Term) → AreBare s → AreBare (under s)
bare-under s w zero = refl
bare-under s w (suc i) = constants-ren next (s i) ∙ w i

constants-sub : (s : ℕ → Term) → AreBare s → (t : Term) → constants (sub s t) ≡ constants t
constants-sub s w (Lam b) = constants-sub (under s) (bare-under s w) b
constants-sub s w (At (Con c)) = refl
constants-sub s w (At (Int c)) = refl
constants-sub s w (At (Str c)) = refl
constants-sub s w (At (Name c)) = refl
constants-sub s w (At (Bound i)) = w i
constants-sub s w (At (Var c)) = refl
constants-sub s w (App g a) = ap₂ (λ (m n : ℕ). m + n) (constants-sub s w g) (constants-sub s w a)

bare-first : (n : ℕ) → AreBare (first (At (Name n)))
bare-first n zero = refl
bare-first n (suc i) = refl

-- a name adds none
pub constants-named : (f : Term) (n : ℕ) → constants (apply f (At (Name n))) ≡ constants f
constants-named (Lam b) n = ap (λ (r : Bool). constants (cond r (sub (first (At (Name n))) b) (App (Lam b) (At (Name n))))) (ready-name n) ∙ constants-sub (first (At (Name n))) (bare-first n) b
constants-named (At h) n = let k : constants (At h) + 0 ≡ constants (At h) = omega arith in k
constants-named (App f a) n = let k : constants (App f a) + 0 ≡ constants (App f a) = omega arith in k

-- an application of a constant
app-constants : (f a : Term) (xs : List Term) → constants (apply_all (App f a) xs) ≡ constants f + constants a + total xs
app-constants f a [] = let k : constants (App f a) ≡ constants f + constants a + 0 = omega arith in k
app-constants f a (x ∷ xs) =
    let e = app-constants (App f a) x xs in
    let d : constants (App f a) ≡ constants f + constants a = refl in
    omega arith

pub head-constants : (c : ℕ) (xs : List Term) → constants (apply_all (At (Con c)) xs) ≡ suc (total xs)
head-constants c [] = refl
head-constants c (x ∷ xs) = let e = app-constants (At (Con c)) x xs in omega arith

-- the shape of an application of a head
app-shape : (xs : List Term) (f a : Term) → shape 0 (apply_all (App f a) xs) ≡ headed 0 (head_of f) ((args_of f ++ a ∷ []) ++ xs)
app-shape [] f a = ap (headed 0 (head_of f)) (sym (append-nil (args_of f ++ a ∷ [])))
app-shape (x ∷ xs) f a = app-shape xs (App f a) x ∙ ap (headed 0 (head_of f)) (append_assoc (args_of f ++ a ∷ []) (x ∷ []) xs)

pub head-shape : (h : Head) (xs : List Term) → shape 0 (apply_all (At h) xs) ≡ headed 0 (Some h) xs
head-shape h [] = refl
head-shape h (x ∷ xs) = app-shape xs (At h) x

-- an abstraction before an argument that isn't ready
pub redex-shape : (b x : Term) (xs : List Term) → ready x ≡ false → shape 0 (apply_all (Lam b) (x ∷ xs)) ≡ RedexShape
redex-shape b x xs r =
    ap (λ (r : Bool). shape 0 (apply_all (cond r (sub (first x) b) (App (Lam b) x)) xs)) r ∙ app-shape xs (Lam b) x

-- a term whose shape has a constant at the head has that constant, and those of its arguments
spine-constants : (f : Term) (c : ℕ) → head_of f ≡ Some (Con c) → constants f ≡ suc (total (args_of f))
spine-constants (Lam b) c e = absurd (let z : None ≡ Some (Con c) = e in cc)
spine-constants (At (Con d)) c e = refl
spine-constants (At (Int d)) c e = absurd (let z : Some (Int d) ≡ Some (Con c) = e in cc)
spine-constants (At (Str d)) c e = absurd (let z : Some (Str d) ≡ Some (Con c) = e in cc)
spine-constants (At (Name d)) c e = absurd (let z : Some (Name d) ≡ Some (Con c) = e in cc)
spine-constants (At (Bound d)) c e = absurd (let z : Some (Bound d) ≡ Some (Con c) = e in cc)
spine-constants (At (Var d)) c e = absurd (let z : Some (Var d) ≡ Some (Con c) = e in cc)
spine-constants (App f a) c e =
    let k = spine-constants f c e in
    let m = total-append (args_of f) (a ∷ []) in
    omega arith

pub headed-constant : (o : Option Head) (xs ts : List Term) (c : ℕ) → headed 0 o xs ≡ Rigid (Con c) ts → (o ≡ Some (Con c)) × (xs ≡ ts)
headed-constant None xs ts c e = absurd (let z : RedexShape ≡ Rigid (Con c) ts = e in cc)
headed-constant (Some (Con d)) xs ts c e = let z : Rigid (Con d) xs ≡ Rigid (Con c) ts = e in (cc, cc)
headed-constant (Some (Int d)) xs ts c e = absurd (let z : Rigid (Int d) xs ≡ Rigid (Con c) ts = e in cc)
headed-constant (Some (Str d)) xs ts c e = absurd (let z : Rigid (Str d) xs ≡ Rigid (Con c) ts = e in cc)
headed-constant (Some (Name d)) xs ts c e = absurd (let z : Rigid (Name d) xs ≡ Rigid (Con c) ts = e in cc)
headed-constant (Some (Bound d)) xs ts c e = absurd (let z : Rigid (Bound d) xs ≡ Rigid (Con c) ts = e in cc)
headed-constant (Some (Var d)) xs ts c e = go (nat_lt d 0) e
  where
    go : (b : Bool) → cond b (Rigid (Var d) xs) (Flex d xs) ≡ Rigid (Con c) ts → (Some (Var d) ≡ Some (Con c)) × (xs ≡ ts)
    go true q = absurd (let z : Rigid (Var d) xs ≡ Rigid (Con c) ts = q in cc)
    go false q = absurd (let z : Flex d xs ≡ Rigid (Con c) ts = q in cc)

shape-constants : (u : Term) (c : ℕ) (ts : List Term) → shape 0 u ≡ Rigid (Con c) ts → constants u ≡ suc (total ts)
shape-constants (Lam b) c ts e = absurd (let z : Abstraction ≡ Rigid (Con c) ts = e in cc)
shape-constants (At h) c ts e =
    let k = headed-constant (Some h) [] ts c e in
    spine-constants (At h) c k.0 ∙ ap (λ (xs : List Term). suc (total xs)) k.1
shape-constants (App f a) c ts e =
    let k = headed-constant (head_of f) (args_of f ++ a ∷ []) ts c e in
    spine-constants (App f a) c k.0 ∙ ap (λ (xs : List Term). suc (total xs)) k.1

-- readers that agree on what has no more constants than a list
abbrev Reader : Type 0
Reader = ℕ → Term → Judged (List Assumption)

abbrev Agree : (r q : Reader) → ℕ → Type 0
Agree r q n = (k : ℕ) (d : Term) → constants d ≤ n → r k d ≡ q k d

form-agree : (r q : Reader) (scope bound c : ℕ) (o : Option Reserved) (ts : List Term) (u : Term) → Agree r q (total ts) → clause_form r scope bound c o ts u ≡ clause_form q scope bound c o ts u
form-agree r q scope bound c None ts u w = refl
form-agree r q scope bound c (Some And_word) [] u w = refl
form-agree r q scope bound c (Some And_word) (d ∷ []) u w = refl
form-agree r q scope bound c (Some And_word) (d ∷ e ∷ []) u w = ap₂ judged_append (w bound d (omega arith)) (w bound e (omega arith))
form-agree r q scope bound c (Some And_word) (d ∷ e ∷ x ∷ xs) u w = refl
form-agree r q scope bound c (Some If_word) [] u w = refl
form-agree r q scope bound c (Some If_word) (d ∷ []) u w = refl
form-agree r q scope bound c (Some If_word) (d ∷ g ∷ []) u w = ap (judged_map (map (guarded g (λ a. if_term a g)))) (w bound d (omega arith))
form-agree r q scope bound c (Some If_word) (d ∷ e ∷ x ∷ xs) u w = refl
form-agree r q scope bound c (Some Implies_word) [] u w = refl
form-agree r q scope bound c (Some Implies_word) (d ∷ []) u w = refl
form-agree r q scope bound c (Some Implies_word) (g ∷ d ∷ []) u w = ap (judged_map (map (guarded g (implies_term g)))) (w bound d (omega arith))
form-agree r q scope bound c (Some Implies_word) (d ∷ e ∷ x ∷ xs) u w = refl
form-agree r q scope bound c (Some Pi_word) [] u w = refl
form-agree r q scope bound c (Some Pi_word) (f ∷ []) u w =
    let k = constants-named f (scope + bound) in
    ap (judged_map (map (quantified (scope + bound)))) (w (suc bound) (apply f (At (Name (scope + bound)))) (omega arith))
form-agree r q scope bound c (Some Pi_word) (d ∷ e ∷ xs) u w = refl
form-agree r q scope bound c (Some Nonvar_word) ts u w = refl
form-agree r q scope bound c (Some Distinct_word) ts u w = refl
form-agree r q scope bound c (Some _) ts u w = refl

at-agree : (r q : Reader) (scope bound n : ℕ) (u : Term) (s : Shape) → ((c : ℕ) (ts : List Term) → s ≡ Rigid (Con c) ts → total ts ≤ n) → Agree r q n → clause_at r scope bound u s ≡ clause_at q scope bound u s
at-agree r q scope bound n u (Rigid (Con c) ts) few w = form-agree r q scope bound c (word_of c) ts u (λ k d l. w k d (let m = few c ts refl in omega arith))
at-agree r q scope bound n u (Rigid (Name c) ts) few w = refl
at-agree r q scope bound n u (Rigid (Int c) ts) few w = refl
at-agree r q scope bound n u (Rigid (Str c) ts) few w = refl
at-agree r q scope bound n u (Rigid (Bound c) ts) few w = refl
at-agree r q scope bound n u (Rigid (Var c) ts) few w = refl
at-agree r q scope bound n u (Flex v ts) few w = refl
at-agree r q scope bound n u RedexShape few w = refl
at-agree r q scope bound n u Abstraction few w = refl

-- no constant, no form
at-none : (r q : Reader) (scope bound : ℕ) (u : Term) → constants u ≡ 0 → clause_at r scope bound u (shape 0 u) ≡ clause_at q scope bound u (shape 0 u)
at-none r q scope bound u z = go (shape 0 u) (shape-constants u)
  where
    go : (s : Shape) → ((c : ℕ) (ts : List Term) → s ≡ Rigid (Con c) ts → constants u ≡ suc (total ts)) → clause_at r scope bound u s ≡ clause_at q scope bound u s
    go (Rigid (Con c) ts) k = absurd (let e = k c ts refl in omega arith)
    go (Rigid (Name c) ts) k = refl
    go (Rigid (Int c) ts) k = refl
    go (Rigid (Str c) ts) k = refl
    go (Rigid (Bound c) ts) k = refl
    go (Rigid (Var c) ts) k = refl
    go (Flex v ts) k = refl
    go RedexShape k = refl
    go Abstraction k = refl

-- enough is enough
enough : (n m scope bound : ℕ) (u : Term) → constants u ≤ n → constants u ≤ m → read_at n scope bound u ≡ read_at m scope bound u
enough zero zero scope bound u p q = refl
enough zero (suc m) scope bound u p q = at-none (λ k d. Bad NotGoal) (read_at m scope) scope bound u (omega arith)
enough (suc n) zero scope bound u p q = at-none (read_at n scope) (λ k d. Bad NotGoal) scope bound u (omega arith)
enough (suc n) (suc m) scope bound u p q = go (shape 0 u) (shape-constants u) (λ c ts l k d h. enough n m scope k d (omega arith) (omega arith))
  where
    go : (s : Shape) → ((c : ℕ) (ts : List Term) → s ≡ Rigid (Con c) ts → constants u ≡ suc (total ts)) → ((c : ℕ) (ts : List Term) → constants u ≡ suc (total ts) → Agree (read_at n scope) (read_at m scope) (total ts)) → clause_at (read_at n scope) scope bound u s ≡ clause_at (read_at m scope) scope bound u s
    go (Rigid (Con c) ts) k w = form-agree (read_at n scope) (read_at m scope) scope bound c (word_of c) ts u (w c ts (k c ts refl))
    go (Rigid (Name c) ts) k w = refl
    go (Rigid (Int c) ts) k w = refl
    go (Rigid (Str c) ts) k w = refl
    go (Rigid (Bound c) ts) k w = refl
    go (Rigid (Var c) ts) k w = refl
    go (Flex v ts) k w = refl
    go RedexShape k w = refl
    go Abstraction k w = refl

-- each part read with as many forms as it has constants
abbrev pub reader : ℕ → ℕ → Term → Judged (List Assumption)
reader scope k d = read_at (constants d) scope k d

-- a term is read by its shape
pub read-shape : (scope bound : ℕ) (u : Term) (s : Shape) → shape 0 u ≡ s → read_at (constants u) scope bound u ≡ clause_at (reader scope) scope bound u s
read-shape scope bound u s e = go (constants u) refl ∙ ap (clause_at (reader scope) scope bound u) e
  where
    go : (n : ℕ) → constants u ≡ n → read_at n scope bound u ≡ clause_at (reader scope) scope bound u (shape 0 u)
    go zero z = at-none (λ k d. Bad NotGoal) (reader scope) scope bound u z
    go (suc n) z = at-agree (read_at n scope) (reader scope) scope bound n u (shape 0 u) (λ c ts k. let m = shape-constants u c ts k in omega arith) (λ k d l. enough n (constants d) scope k d l (omega arith))
