-- The constants at the heads of assumptions.
use Rattle.std.proofs.Common.{◌≡◌, ℕ, zero, suc, ◌+◌, List, [], ◌∷◌, ◌++◌, map, Bool, true, false, cond, nat_lt, Option, Some, None, refl, sym, ap, ◌∙◌, subst}
use Rattle.std.proofs.lemmas.List.{map-append}
use Rattle.ref_terms.specs.terms.Term.{Term, Lam, At, App, Head, Con, Int, Str, Name, Bound, Var}
use Rattle.ref_terms.specs.terms.Apply.{apply, fill}
use Rattle.ref_terms.specs.terms.Instance.{only}
use Rattle.ref_terms.specs.unification.Problem.{Binding}
use Rattle.ref_terms.specs.unification.Shape.{Shape, Abstraction, Redex as RedexShape, Rigid, Flex, shape}
use Rattle.ref_terms.specs.unification.Spine.{head_of, args_of}
use Rattle.ref_terms.specs.declared.fault.Fault.TheVariants.{NotGoal, FlexClause}
use Rattle.ref_terms.specs.declared.reserved.Reserved.{Reserved}
use Rattle.ref_terms.specs.declared.reserved.Reserved.TheVariants.{And as And_word, Implies as Implies_word, If as If_word, Pi as Pi_word, Nonvar as Nonvar_word, Distinct as Distinct_word}
use Rattle.ref_terms.specs.search.Reserved.{word_of, if_term, implies_term}
use Rattle.ref_terms.specs.search.Fault.{Judged, Good, Bad, judged_map, judged_append}
use Rattle.ref_terms.specs.search.Assumption.{Assumption, guarded, quantified, clause_form, clause_at, constants, read_at, assumptions_of}
use Rattle.ref_terms.specs.search.Branch.{bound, bound_assumption}
use Rattle.ref_terms.specs.search.Instance.{fresh_for_parameter}
use Rattle.level_terms.specs.Graph.{Graph}
use Rattle.hyp_clause.specs.declared.hyp.Hyp.{Hyp}
use Rattle.hyp_clause.specs.Hyps.{assumption_in, AllAtDepth}
use Rattle.hyp_clause.specs.Headed.{IsHeaded, AllHeaded, AllScoped, AssumedAreScoped, AssumedAreHeaded, BoundAreHeaded, ArgumentsOfAssumption}
use Rattle.hyp_clause.proofs.ReadAtLemmas.{headed-constant}

-- an assumption that was read under a scope
record IsRead (scope : ℕ) (a : Assumption) : Type 0 where
  headed : IsHeaded a
  scoped : a.scope ≡ scope

abbrev AllRead : ℕ → List Assumption → Type 0
AllRead scope [] = Unit {0}
AllRead scope (a ∷ more) = IsRead scope a × AllRead scope more

-- so in what is judged good
abbrev GoodRead : ℕ → Judged (List Assumption) → Type 0
GoodRead scope (Good hs) = AllRead scope hs
GoodRead scope (Bad f) = Unit {0}

append-read : (scope : ℕ) (xs ys : List Assumption) → AllRead scope xs → AllRead scope ys → AllRead scope (xs ++ ys)
append-read scope [] ys v w = w
append-read scope (x ∷ xs) ys v w = (v.0, append-read scope xs ys v.1 w)

both-read : (scope : ℕ) (j k : Judged (List Assumption)) → GoodRead scope j → GoodRead scope k → GoodRead scope (judged_append j k)
both-read scope (Good xs) (Good ys) v w = append-read scope xs ys v w
both-read scope (Good xs) (Bad e) v w = tt
both-read scope (Bad e) k v w = tt

-- and where head, constant and scope stay
abbrev KeepsRead : (Assumption → Assumption) → Type 0
KeepsRead f = (scope : ℕ) (a : Assumption) → IsRead scope a → IsRead scope (f a)

map-read : (f : Assumption → Assumption) → KeepsRead f → (scope : ℕ) (hs : List Assumption) → AllRead scope hs → AllRead scope (map f hs)
map-read f k scope [] w = tt
map-read f k scope (h ∷ hs) w = (k scope h w.0, map-read f k scope hs w.1)

mapped-read : (f : Assumption → Assumption) → KeepsRead f → (scope : ℕ) (j : Judged (List Assumption)) → GoodRead scope j → GoodRead scope (judged_map (map f) j)
mapped-read f k scope (Good hs) w = map-read f k scope hs w
mapped-read f k scope (Bad e) w = tt

-- a form
abbrev AllGoodRead : ℕ → (ℕ → Term → Judged (List Assumption)) → Type 0
AllGoodRead scope r = (k : ℕ) (d : Term) → GoodRead scope (r k d)

form-read : (r : ℕ → Term → Judged (List Assumption)) (scope bound c : ℕ) (o : Option Reserved) (ts : List Term) (u : Term) → AllGoodRead scope r → head_of u ≡ Some (Con c) → GoodRead scope (clause_form r scope bound c o ts u)
form-read r scope bound c None ts u w e = (record { headed = e; scoped = refl }, tt)
form-read r scope bound c (Some And_word) [] u w e = tt
form-read r scope bound c (Some And_word) (d ∷ []) u w e = tt
form-read r scope bound c (Some And_word) (d ∷ g ∷ []) u w e = both-read scope (r bound d) (r bound g) (w bound d) (w bound g)
form-read r scope bound c (Some And_word) (d ∷ g ∷ x ∷ xs) u w e = tt
form-read r scope bound c (Some If_word) [] u w e = tt
form-read r scope bound c (Some If_word) (d ∷ []) u w e = tt
form-read r scope bound c (Some If_word) (d ∷ g ∷ []) u w e = mapped-read (guarded g (λ a. if_term a g)) (λ s a h. record { headed = h.headed; scoped = h.scoped }) scope (r bound d) (w bound d)
form-read r scope bound c (Some If_word) (d ∷ g ∷ x ∷ xs) u w e = tt
form-read r scope bound c (Some Implies_word) [] u w e = tt
form-read r scope bound c (Some Implies_word) (d ∷ []) u w e = tt
form-read r scope bound c (Some Implies_word) (g ∷ d ∷ []) u w e = mapped-read (guarded g (implies_term g)) (λ s a h. record { headed = h.headed; scoped = h.scoped }) scope (r bound d) (w bound d)
form-read r scope bound c (Some Implies_word) (d ∷ g ∷ x ∷ xs) u w e = tt
form-read r scope bound c (Some Pi_word) [] u w e = tt
form-read r scope bound c (Some Pi_word) (f ∷ []) u w e =
    mapped-read (quantified (scope + bound)) (λ s a h. record { headed = h.headed; scoped = h.scoped }) scope (r (suc bound) (apply f (At (Name (scope + bound))))) (w (suc bound) (apply f (At (Name (scope + bound)))))
form-read r scope bound c (Some Pi_word) (f ∷ g ∷ xs) u w e = tt
form-read r scope bound c (Some Nonvar_word) ts u w e = (record { headed = e; scoped = refl }, tt)
form-read r scope bound c (Some Distinct_word) ts u w e = (record { headed = e; scoped = refl }, tt)
form-read r scope bound c (Some _) ts u w e = tt

-- a term whose shape has a constant at the head has that head
shape-head : (u : Term) (c : ℕ) (ts : List Term) → shape 0 u ≡ Rigid (Con c) ts → head_of u ≡ Some (Con c)
shape-head (Lam b) c ts e = absurd (let z : Abstraction ≡ Rigid (Con c) ts = e in cc)
shape-head (At h) c ts e = (headed-constant (Some h) [] ts c e).0
shape-head (App f a) c ts e = (headed-constant (head_of f) (args_of f ++ a ∷ []) ts c e).0

at-read : (r : ℕ → Term → Judged (List Assumption)) (scope bound : ℕ) (u : Term) (s : Shape) → AllGoodRead scope r → ((c : ℕ) (ts : List Term) → s ≡ Rigid (Con c) ts → head_of u ≡ Some (Con c)) → GoodRead scope (clause_at r scope bound u s)
at-read r scope bound u (Rigid (Con c) ts) w h = form-read r scope bound c (word_of c) ts u w (h c ts refl)
at-read r scope bound u (Rigid (Name n) ts) w h = name (nat_lt n scope)
  where
    name : (b : Bool) → GoodRead scope (cond b (Bad NotGoal) (Bad FlexClause))
    name true = tt
    name false = tt
at-read r scope bound u (Rigid (Int n) ts) w h = tt
at-read r scope bound u (Rigid (Str n) ts) w h = tt
at-read r scope bound u (Rigid (Bound n) ts) w h = tt
at-read r scope bound u (Rigid (Var n) ts) w h = tt
at-read r scope bound u (Flex v ts) w h = tt
at-read r scope bound u RedexShape w h = tt
at-read r scope bound u Abstraction w h = tt

read-all : (n scope bound : ℕ) (u : Term) → GoodRead scope (read_at n scope bound u)
read-all zero scope bound u = at-read (λ k d. Bad NotGoal) scope bound u (shape 0 u) (λ k d. tt) (shape-head u)
read-all (suc n) scope bound u = at-read (read_at n scope) scope bound u (shape 0 u) (λ k d. read-all n scope k d) (shape-head u)

all-read_assumed : (scope : ℕ) (t : Term) (assumptions : List Assumption) → assumptions_of scope t ≡ Good assumptions → AllRead scope assumptions
all-read_assumed scope t assumptions e = subst (GoodRead scope) e (read-all (constants t) scope 0 t)

all-headed : (scope : ℕ) (hs : List Assumption) → AllRead scope hs → AllHeaded hs
all-headed scope [] w = tt
all-headed scope (h ∷ hs) w = (w.0.headed, all-headed scope hs w.1)

all-scoped : (scope : ℕ) (hs : List Assumption) → AllRead scope hs → AllScoped scope hs
all-scoped scope [] w = tt
all-scoped scope (h ∷ hs) w = (w.0.scoped, all-scoped scope hs w.1)

pub assumed-headed : AssumedAreHeaded
assumed-headed scope t assumptions e = all-headed scope assumptions (all-read_assumed scope t assumptions e)

pub assumed-scoped : AssumedAreScoped
assumed-scoped scope t assumptions e = all-scoped scope assumptions (all-read_assumed scope t assumptions e)

map-headed : (f : Assumption → Assumption) → ((a : Assumption) → IsHeaded a → IsHeaded (f a)) → (hs : List Assumption) → AllHeaded hs → AllHeaded (map f hs)
map-headed f k [] w = tt
map-headed f k (h ∷ hs) w = (k h w.0, map-headed f k hs w.1)

-- of the clauses that read as these
pub all-at_depth : (g : Graph) (depth : ℕ) (hs : List Hyp) → AllScoped depth (map (assumption_in g) hs) → AllAtDepth depth hs
all-at_depth g depth [] w = tt
all-at_depth g depth (h ∷ hs) w = (w.0, all-at_depth g depth hs w.1)

-- terms in the places of heads, where the constants stay
abbrev KeepsConstants : (Head → Term) → Type 0
KeepsConstants r = (c : ℕ) → r (Con c) ≡ At (Con c)

apply-headed : (c : ℕ) (f a : Term) → head_of f ≡ Some (Con c) → apply f a ≡ App f a
apply-headed c (Lam b) a e = absurd (let k : None ≡ Some (Con c) = e in cc)
apply-headed c (At h) a e = refl
apply-headed c (App f b) a e = refl

filled-headed : (r : Head → Term) (c : ℕ) (t : Term) → KeepsConstants r → head_of t ≡ Some (Con c) → (head_of (fill r t) ≡ Some (Con c)) × (args_of (fill r t) ≡ map (fill r) (args_of t))
filled-headed r c (Lam b) k e = absurd (let q : None ≡ Some (Con c) = e in cc)
filled-headed r c (At (Con d)) k e = (ap head_of (k d) ∙ e, ap args_of (k d))
filled-headed r c (At (Int d)) k e = absurd (let q : Some (Int d) ≡ Some (Con c) = e in cc)
filled-headed r c (At (Str d)) k e = absurd (let q : Some (Str d) ≡ Some (Con c) = e in cc)
filled-headed r c (At (Name d)) k e = absurd (let q : Some (Name d) ≡ Some (Con c) = e in cc)
filled-headed r c (At (Bound d)) k e = absurd (let q : Some (Bound d) ≡ Some (Con c) = e in cc)
filled-headed r c (At (Var d)) k e = absurd (let q : Some (Var d) ≡ Some (Con c) = e in cc)
filled-headed r c (App f a) k e =
    let w = filled-headed r c f k e in
    let step = apply-headed c (fill r f) (fill r a) w.0 in
    (ap head_of step ∙ w.0, ap args_of step ∙ ap (λ (xs : List Term). xs ++ fill r a ∷ []) w.1 ∙ sym (map-append (fill r) (args_of f) (a ∷ [])))

-- bindings keep them
bound-head : (bs : List Binding) (c : ℕ) (t : Term) → head_of t ≡ Some (Con c) → head_of (bound bs t) ≡ Some (Con c)
bound-head [] c t e = e
bound-head (b ∷ older) c t e = (filled-headed (only b.variable b.value) c (bound older t) (λ d. refl) (bound-head older c t e)).0

pub bound-headed : BoundAreHeaded
bound-headed bs assumptions w = map-headed (bound_assumption bs) (λ a h. bound-head bs a.pred a.head h) assumptions w

pub arguments-headed : ArgumentsOfAssumption
arguments-headed a names next e = (filled-headed (fresh_for_parameter a names next) a.pred a.head (λ c. refl) e).1
