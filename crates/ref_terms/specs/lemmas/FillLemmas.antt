-- Replacing heads: what is built stays built, and two replacements compose.
use Rattle.std.proofs.Common.{◌≡◌, ℕ, zero, suc, Bool, true, false, cond, refl, sym, ap, ◌∙◌, subst, Option, Some, None, option_map, IfSome}
use mathlib.Core.Path.{fun_ext}
use Rattle.ref_terms.specs.terms.Term.{Term, Lam, At, App, Head, Con, Int, Str, Name, Bound, Var}
use Rattle.ref_terms.specs.terms.Index.{ren, up, next, shift, under, sub, first}
use Rattle.ref_terms.specs.terms.Eta.{eta, lam, lam_of}
use Rattle.ref_terms.specs.terms.Ready.{ready}
use Rattle.ref_terms.specs.terms.Apply.{apply, below, fill}
use Rattle.ref_terms.specs.terms.Built.{IsBuilt, IsStuck}
use Rattle.ref_terms.specs.laws.TermLaws.{AllBuilt}
use Rattle.ref_terms.specs.lemmas.TermLemmas.{under_up, sub-ren, ren_sub, sub_id}
use Rattle.ref_terms.specs.lemmas.EtaLemmas.{eta-sub, eta-some}
use Rattle.ref_terms.specs.lemmas.ReadyFacts.{ready-bound, ready-lam, ready-sub, ready-ren}
use Rattle.ref_terms.specs.lemmas.ApplyLemmas.{AllReady, ready-under, ready-first}

-- substituting ready terms that are built
stuck_ready : (f a : Term) → ready f ≡ true → IsStuck f a
stuck_ready (Lam b) a h = absurd (let e : false ≡ true = sym (ready-lam b) ∙ h in cc)
stuck_ready (At h') a h = tt
stuck_ready (App f b) a h = tt

stuck-sub : (s : ℕ → Term) → AllReady s → (f a : Term) → IsStuck f a → IsStuck (sub s f) (sub s a)
stuck-sub s h (Lam b) a w = ready-sub s h a ∙ w
stuck-sub s h (At (Bound i)) a w = stuck_ready (s i) (sub s a) (h i)
stuck-sub s h (At (Con c)) a w = tt
stuck-sub s h (At _) a w = tt
stuck-sub s h (App f b) a w = tt

-- renaming what is built
pub eta-ren : (f : ℕ → ℕ) (b : Term) → eta (ren (up f) b) ≡ option_map (ren f) (eta b)
eta-ren f b =
    ap eta (ren_sub (up f) b ∙ ap (λ s. sub s b) (sym (fun_ext (under_up f)))) ∙ eta-sub (λ i. At (Bound (f i))) b
    ∙ ap (λ g. option_map g (eta b)) (fun_ext (λ t. sym (ren_sub f t)))

stuck-ren : (f : ℕ → ℕ) (g a : Term) → IsStuck g a → IsStuck (ren f g) (ren f a)
stuck-ren f (Lam b) a w = ready-ren f a ∙ w
stuck-ren f (At h) a w = tt
stuck-ren f (App g b) a w = tt

pub built-ren : (f : ℕ → ℕ) (t : Term) → IsBuilt t → IsBuilt (ren f t)
built-ren f (Lam b) v = (built-ren (up f) b v.0, eta-ren f b ∙ ap (option_map (ren f)) v.1)
built-ren f (At h) v = tt
built-ren f (App g a) v = (built-ren f g v.0, built-ren f a v.1, stuck-ren f g a v.2)

pub map_none : {A B : Type 0} (g : A → B) (o : Option A) → option_map g o ≡ None → o ≡ None
map_none g None e = refl
map_none g (Some x) e = absurd (let k : Some (g x) ≡ None = e in cc)

stuck-unren : (f : ℕ → ℕ) (g a : Term) → IsStuck (ren f g) (ren f a) → IsStuck g a
stuck-unren f (Lam b) a w = sym (ready-ren f a) ∙ w
stuck-unren f (At h) a w = tt
stuck-unren f (App g b) a w = tt

pub built-unren : (f : ℕ → ℕ) (t : Term) → IsBuilt (ren f t) → IsBuilt t
built-unren f (Lam b) v = (built-unren (up f) b v.0, map_none (ren f) (eta b) (sym (eta-ren f b) ∙ v.1))
built-unren f (At h) v = tt
built-unren f (App g a) v = (built-unren f g v.0, built-unren f a v.1, stuck-unren f g a v.2)

built-under : (s : ℕ → Term) → ((i : ℕ) → IsBuilt (s i)) → (i : ℕ) → IsBuilt (under s i)
built-under s w zero = tt
built-under s w (suc n) = built-ren next (s n) (w n)

pub built-sub : (s : ℕ → Term) → AllReady s → ((i : ℕ) → IsBuilt (s i)) → (t : Term) → IsBuilt t → IsBuilt (sub s t)
built-sub s h w (Lam b) v = (built-sub (under s) (ready-under s h) (built-under s w) b v.0, eta-sub s b ∙ ap (option_map (sub s)) v.1)
built-sub s h w (At (Bound i)) v = w i
built-sub s h w (At (Con c)) v = tt
built-sub s h w (At _) v = tt
built-sub s h w (App f a) v = (built-sub s h w f v.0, built-sub s h w a v.1, stuck-sub s h f a v.2)

built-first : (a : Term) → IsBuilt a → (i : ℕ) → IsBuilt (first a i)
built-first a w zero = w
built-first a w (suc n) = tt

pub built-apply : (f a : Term) → IsBuilt f → IsBuilt a → IsBuilt (apply f a)
built-apply (Lam b) a v w = go (ready a) refl
  where
    go : (r : Bool) → ready a ≡ r → IsBuilt (cond r (sub (first a) b) (App (Lam b) a))
    go true e = built-sub (first a) (ready-first a e) (built-first a w) b v.0
    go false e = (v, w, e)
built-apply (At h) a v w = (v, w, tt)
built-apply (App f b) a v w = (v, w, tt)

pub built-lam : (b : Term) → IsBuilt b → IsBuilt (lam b)
built-lam b w = go (eta b) refl (eta-some b)
  where
    go : (o : Option Term) → eta b ≡ o → IfSome o (λ u. b ≡ App (shift u) (At (Bound zero))) → IsBuilt (lam_of o b)
    go None e h = (w, e)
    go (Some u) e h = built-unren next u ((subst IsBuilt h w).0)

pub below-built : (r : Head → Term) → AllBuilt r → AllBuilt (below r)
below-built r w (Bound zero) = tt
below-built r w (Bound (suc n)) = built-ren next (r (Bound n)) (w (Bound n))
below-built r w (Con c) = built-ren next (r (Con c)) (w (Con c))
below-built r w (Int n) = built-ren next (r (Int n)) (w (Int n))
below-built r w (Str s) = built-ren next (r (Str s)) (w (Str s))
below-built r w (Name n) = built-ren next (r (Name n)) (w (Name n))
below-built r w (Var v) = built-ren next (r (Var v)) (w (Var v))

pub built-fill : (r : Head → Term) → AllBuilt r → (t : Term) → IsBuilt (fill r t)
built-fill r w (Lam b) = built-lam (fill (below r) b) (built-fill (below r) (below-built r w) b)
built-fill r w (At h) = w h
built-fill r w (App f a) = built-apply (fill r f) (fill r a) (built-fill r w f) (built-fill r w a)

-- applying a contracted abstraction to a ready term
lam_opened : (c x : Term) (o : Option Term) → IsBuilt c → ready x ≡ true → eta c ≡ o → IfSome o (λ u. c ≡ App (shift u) (At (Bound zero))) → apply (lam_of o c) x ≡ sub (first x) c
lam_opened c x None w h e k = rw h refl
lam_opened c x (Some (Lam d)) w h e k = absurd (let q : ready (At (Bound zero)) ≡ false = (subst IsBuilt k w).2 in let q' : ready (At (Bound zero)) ≡ true = ready-bound zero in let z : true ≡ false = sym q' ∙ q in cc)
lam_opened c x (Some (At h')) w h e k = sym (ap (sub (first x)) k ∙ ap (λ t. App t x) (sub-ren (first x) next (At h') ∙ sub_id (At h')))
lam_opened c x (Some (App f a)) w h e k = sym (ap (sub (first x)) k ∙ ap (λ t. App t x) (sub-ren (first x) next (App f a) ∙ sub_id (App f a)))

pub apply-lam : (c x : Term) → IsBuilt c → ready x ≡ true → apply (lam c) x ≡ sub (first x) c
apply-lam c x w h = lam_opened c x (eta c) w h refl (eta-some c)
