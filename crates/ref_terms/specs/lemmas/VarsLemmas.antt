-- Renaming variables commutes with all that builds terms.
use Rattle.std.proofs.Common.{◌≡◌, ℕ, zero, suc, Bool, true, false, cond, refl, ap, ap₂, ◌∙◌, Option, Some, None, option_map}
use mathlib.Core.Path.{fun_ext}
use Rattle.ref_terms.specs.terms.Term.{Term, Lam, At, App, Head, Con, Int, Str, Name, Bound, Var}
use Rattle.ref_terms.specs.terms.Index.{ren, up, next, shift, under, sub, first}
use Rattle.ref_terms.specs.terms.Eta.{up_partial, both, partial, previous, lower, on_index, eta, lam, lam_of}
use Rattle.ref_terms.specs.terms.Ready.{ready}
use Rattle.ref_terms.specs.terms.Apply.{apply, below, fill}
use Rattle.ref_terms.specs.terms.Renamed.{vars, vars_head}
use Rattle.ref_terms.specs.lemmas.ReadyFacts.{ready-vars}

pub vars-ren : (p f : ℕ → ℕ) (t : Term) → vars p (ren f t) ≡ ren f (vars p t)
vars-ren p f (Lam b) = ap Lam (vars-ren p (up f) b)
vars-ren p f (At (Con c)) = refl
vars-ren p f (At _) = refl
vars-ren p f (App t a) = ap₂ App (vars-ren p f t) (vars-ren p f a)

map_map : {A B C D : Type 0} (g : B → D) (f : A → B) (k : C → D) (h : A → C) (e : (a : A) → g (f a) ≡ k (h a)) (o : Option A) → option_map g (option_map f o) ≡ option_map k (option_map h o)
map_map g f k h e None = refl
map_map g f k h e (Some a) = ap Some (e a)

both-vars : (p : ℕ → ℕ) (o q : Option Term) → option_map (vars p) (both o q) ≡ both (option_map (vars p) o) (option_map (vars p) q)
both-vars p None q = refl
both-vars p (Some x) None = refl
both-vars p (Some x) (Some y) = refl

map_bound : (p : ℕ → ℕ) (o : Option ℕ) → option_map (vars p) (option_map (λ j. At (Bound j)) o) ≡ option_map (λ j. At (Bound j)) o
map_bound p None = refl
map_bound p (Some j) = refl

partial-vars : (p : ℕ → ℕ) (q : ℕ → Option ℕ) (t : Term) → option_map (vars p) (partial q t) ≡ partial q (vars p t)
partial-vars p q (Lam b) = map_map (vars p) Lam Lam (vars p) (λ a. refl) (partial (up_partial q) b) ∙ ap (option_map Lam) (partial-vars p (up_partial q) b)
partial-vars p q (At (Bound i)) = map_bound p (q i)
partial-vars p q (At (Con c)) = refl
partial-vars p q (At _) = refl
partial-vars p q (App f a) = both-vars p (partial q f) (partial q a) ∙ ap₂ both (partial-vars p q f) (partial-vars p q a)

on_index-vars : (p : ℕ → ℕ) (a : Term) (o : Option Term) → option_map (vars p) (on_index a o) ≡ on_index (vars p a) (option_map (vars p) o)
on_index-vars p (At (Bound zero)) o = refl
on_index-vars p (At _) o = refl
on_index-vars p _ o = refl

eta-vars : (p : ℕ → ℕ) (b : Term) → option_map (vars p) (eta b) ≡ eta (vars p b)
eta-vars p (App f a) = on_index-vars p a (lower f) ∙ ap (on_index (vars p a)) (partial-vars p previous f)
eta-vars p (Lam b) = refl
eta-vars p (At h) = refl

lam_of-vars : (p : ℕ → ℕ) (o : Option Term) (b : Term) → vars p (lam_of o b) ≡ lam_of (option_map (vars p) o) (vars p b)
lam_of-vars p None b = refl
lam_of-vars p (Some t) b = refl

pub lam-vars : (p : ℕ → ℕ) (b : Term) → vars p (lam b) ≡ lam (vars p b)
lam-vars p b = lam_of-vars p (eta b) b ∙ ap (λ o. lam_of o (vars p b)) (eta-vars p b)

under-vars : (p : ℕ → ℕ) (s : ℕ → Term) (i : ℕ) → vars p (under s i) ≡ under (λ k. vars p (s k)) i
under-vars p s zero = refl
under-vars p s (suc n) = vars-ren p next (s n)

sub-vars : (p : ℕ → ℕ) (s : ℕ → Term) (t : Term) → vars p (sub s t) ≡ sub (λ i. vars p (s i)) (vars p t)
sub-vars p s (Lam b) = ap Lam (sub-vars p (under s) b ∙ ap (λ z. sub z (vars p b)) (fun_ext (under-vars p s)))
sub-vars p s (At (Con c)) = refl
sub-vars p s (At _) = refl
sub-vars p s (App f a) = ap₂ App (sub-vars p s f) (sub-vars p s a)

first-vars : (p : ℕ → ℕ) (a : Term) (i : ℕ) → vars p (first a i) ≡ first (vars p a) i
first-vars p a zero = refl
first-vars p a (suc i) = refl

pub apply-vars : (p : ℕ → ℕ) (f a : Term) → vars p (apply f a) ≡ apply (vars p f) (vars p a)
apply-vars p (Lam b) a = go (ready a) refl
  where
    go : (r : Bool) → ready a ≡ r → vars p (cond r (sub (first a) b) (App (Lam b) a)) ≡ cond (ready (vars p a)) (sub (first (vars p a)) (vars p b)) (App (Lam (vars p b)) (vars p a))
    go true e = rw (ready-vars p a ∙ e) (sub-vars p (first a) b ∙ ap (λ z. sub z (vars p b)) (fun_ext (first-vars p a)))
    go false e = rw (ready-vars p a ∙ e) refl
apply-vars p (At h) a = refl
apply-vars p (App f b) a = refl

below-vars : (p : ℕ → ℕ) (r q : Head → Term) → ((h : Head) → vars p (r h) ≡ q (vars_head p h)) → (h : Head) → vars p (below r h) ≡ below q (vars_head p h)
below-vars p r q e (Bound zero) = refl
below-vars p r q e (Bound (suc n)) = vars-ren p next (r (Bound n)) ∙ ap shift (e (Bound n))
below-vars p r q e (Con c) = vars-ren p next (r (Con c)) ∙ ap shift (e (Con c))
below-vars p r q e (Int c) = vars-ren p next (r (Int c)) ∙ ap shift (e (Int c))
below-vars p r q e (Str c) = vars-ren p next (r (Str c)) ∙ ap shift (e (Str c))
below-vars p r q e (Name c) = vars-ren p next (r (Name c)) ∙ ap shift (e (Name c))
below-vars p r q e (Var c) = vars-ren p next (r (Var c)) ∙ ap shift (e (Var c))

pub fill-vars : (p : ℕ → ℕ) (r q : Head → Term) → ((h : Head) → vars p (r h) ≡ q (vars_head p h)) → (t : Term) → vars p (fill r t) ≡ fill q (vars p t)
fill-vars p r q e (Lam b) = lam-vars p (fill (below r) b) ∙ ap lam (fill-vars p (below r) (below q) (below-vars p r q e) b)
fill-vars p r q e (At h) = e h
fill-vars p r q e (App f a) = apply-vars p (fill r f) (fill r a) ∙ ap₂ apply (fill-vars p r q e f) (fill-vars p r q e a)
