-- Replacing heads twice is replacing them once.
use Rattle.std.proofs.Common.{◌≡◌, ℕ, zero, suc, Bool, true, false, cond, refl, sym, ap, ap₂, ◌∙◌, Option, Some, None, IfSome}
use mathlib.Core.Path.{fun_ext}
use Rattle.ref_terms.specs.terms.Term.{Term, Lam, At, App, Head, Con, Int, Str, Name, Bound, Var}
use Rattle.ref_terms.specs.terms.Index.{ren, ren_head, up, next, shift, under, sub, sub_head, first}
use Rattle.ref_terms.specs.terms.Eta.{eta, lam, lam_of}
use Rattle.ref_terms.specs.terms.Ready.{ready}
use Rattle.ref_terms.specs.terms.Apply.{apply, below, fill}
use Rattle.ref_terms.specs.terms.Built.{IsBuilt}
use Rattle.ref_terms.specs.lemmas.TermLemmas.{under_up, ren-ren, sub-ren, ren-sub, ren_sub, sub_id}
use Rattle.ref_terms.specs.lemmas.EtaLemmas.{sub-lam, eta-some, lower-shift}
use Rattle.ref_terms.specs.lemmas.ReadyFacts.{ready-bound, ready-ren, ready-fill}
use Rattle.ref_terms.specs.lemmas.ApplyLemmas.{AllReady, ready-under, ready-first, sub-apply}
use Rattle.ref_terms.specs.lemmas.FillLemmas.{built-fill, apply-lam, below-built}
use Rattle.ref_terms.specs.laws.TermLaws.{KeepsReady, AllBuilt}

-- replacing heads after a renaming
pub ren-apply : (g : ℕ → ℕ) (f a : Term) → ren g (apply f a) ≡ apply (ren g f) (ren g a)
ren-apply g f a = ren_sub g (apply f a) ∙ sub-apply _ (λ i. ready-bound (g i)) f a ∙ ap₂ apply (sym (ren_sub g f)) (sym (ren_sub g a))

pub ren-lam : (g : ℕ → ℕ) (b : Term) → ren g (lam b) ≡ lam (ren (up g) b)
ren-lam g b = ren_sub g (lam b) ∙ sub-lam _ b ∙ ap lam (ap (λ s. sub s b) (fun_ext (under_up g)) ∙ sym (ren_sub (up g) b))

below-ren : (r q : Head → Term) (f g : ℕ → ℕ) → ((h : Head) → r (ren_head f h) ≡ ren g (q h)) → (h : Head) → below r (ren_head (up f) h) ≡ ren (up g) (below q h)
below-ren r q f g e (Bound zero) = refl
below-ren r q f g e (Bound (suc n)) = ap shift (e (Bound n)) ∙ ren-ren g next (q (Bound n)) ∙ sym (ren-ren next (up g) (q (Bound n)))
below-ren r q f g e (Con c) = ap shift (e (Con c)) ∙ ren-ren g next (q (Con c)) ∙ sym (ren-ren next (up g) (q (Con c)))
below-ren r q f g e (Int c) = ap shift (e (Int c)) ∙ ren-ren g next (q (Int c)) ∙ sym (ren-ren next (up g) (q (Int c)))
below-ren r q f g e (Str c) = ap shift (e (Str c)) ∙ ren-ren g next (q (Str c)) ∙ sym (ren-ren next (up g) (q (Str c)))
below-ren r q f g e (Name c) = ap shift (e (Name c)) ∙ ren-ren g next (q (Name c)) ∙ sym (ren-ren next (up g) (q (Name c)))
below-ren r q f g e (Var c) = ap shift (e (Var c)) ∙ ren-ren g next (q (Var c)) ∙ sym (ren-ren next (up g) (q (Var c)))

pub fill-ren : (r q : Head → Term) (f g : ℕ → ℕ) → ((h : Head) → r (ren_head f h) ≡ ren g (q h)) → (t : Term) → fill r (ren f t) ≡ ren g (fill q t)
fill-ren r q f g e (Lam b) = ap lam (fill-ren (below r) (below q) (up f) (up g) (below-ren r q f g e) b) ∙ sym (ren-lam g (fill (below q) b))
fill-ren r q f g e (At h) = e h
fill-ren r q f g e (App t a) = ap₂ apply (fill-ren r q f g e t) (fill-ren r q f g e a) ∙ sym (ren-apply g (fill q t) (fill q a))

below_shift : (r : Head → Term) (h : Head) → below r (ren_head next h) ≡ shift (r h)
below_shift r (Bound n) = refl
below_shift r (Con c) = refl
below_shift r _ = refl

pub fill-shift : (r : Head → Term) (t : Term) → fill (below r) (shift t) ≡ shift (fill r t)
fill-shift r t = fill-ren (below r) r next next (below_shift r) t

-- η, at any term that is built
again : (i : ℕ) → first (At (Bound zero)) (up next i) ≡ At (Bound i)
again zero = refl
again (suc i) = refl

pub lam-apply : (t : Term) → IsBuilt t → lam (apply (shift t) (At (Bound zero))) ≡ t
lam-apply (Lam d) v = rw (ready-bound zero) (ap lam (sub-ren (first (At (Bound zero))) (up next) d ∙ ap (λ s. sub s d) (fun_ext again) ∙ sub_id d) ∙ ap (λ o. lam_of o d) v.1)
lam-apply (At h) v = ap (λ o. lam_of o (App (shift (At h)) (At (Bound zero)))) (lower-shift (At h))
lam-apply (App f a) v = ap (λ o. lam_of o (App (shift (App f a)) (At (Bound zero)))) (lower-shift (App f a))

-- replacing heads in an abstraction
lam_filled : (r : Head → Term) (b : Term) (o : Option Term) → AllBuilt r → eta b ≡ o → IfSome o (λ u. b ≡ App (shift u) (At (Bound zero))) → fill r (lam_of o b) ≡ lam (fill (below r) b)
lam_filled r b None w e k = refl
lam_filled r b (Some u) w e k = sym (ap (λ t. lam (fill (below r) t)) k ∙ ap (λ t. lam (apply t (At (Bound zero)))) (fill-shift r u) ∙ lam-apply (fill r u) (built-fill r w u))

pub fill-lam : (r : Head → Term) → AllBuilt r → (b : Term) → fill r (lam b) ≡ lam (fill (below r) b)
fill-lam r w b = lam_filled r b (eta b) w refl (eta-some b)

-- replacing heads in a body that was opened with ready terms
module _ where
  -- replacing indices by s and then heads by r is replacing heads by q and then indices by z, at each head
  abbrev pub Fits : (r q : Head → Term) (s z : ℕ → Term) → Type 0
  Fits r q s z = (h : Head) → fill r (sub_head s h) ≡ sub z (q h)

sub-shift : (z : ℕ → Term) (t : Term) → sub (under z) (shift t) ≡ shift (sub z t)
sub-shift z t = sub-ren (under z) next t ∙ sym (ren-sub next z t)

below-fits : (r q : Head → Term) (s z : ℕ → Term) → Fits r q s z → Fits (below r) (below q) (under s) (under z)
below-fits r q s z e (Bound zero) = refl
below-fits r q s z e (Bound (suc n)) = fill-shift r (s n) ∙ ap shift (e (Bound n)) ∙ sym (sub-shift z (q (Bound n)))
below-fits r q s z e (Con c) = ap shift (e (Con c)) ∙ sym (sub-shift z (q (Con c)))
below-fits r q s z e (Int c) = ap shift (e (Int c)) ∙ sym (sub-shift z (q (Int c)))
below-fits r q s z e (Str c) = ap shift (e (Str c)) ∙ sym (sub-shift z (q (Str c)))
below-fits r q s z e (Name c) = ap shift (e (Name c)) ∙ sym (sub-shift z (q (Name c)))
below-fits r q s z e (Var c) = ap shift (e (Var c)) ∙ sym (sub-shift z (q (Var c)))

pub fill-sub : (r q : Head → Term) (s z : ℕ → Term) → AllReady z → Fits r q s z → (t : Term) → fill r (sub s t) ≡ sub z (fill q t)
fill-sub r q s z h e (Lam b) = ap lam (fill-sub (below r) (below q) (under s) (under z) (ready-under z h) (below-fits r q s z e) b) ∙ sym (sub-lam z (fill (below q) b))
fill-sub r q s z h e (At k) = e k
fill-sub r q s z h e (App f a) = ap₂ apply (fill-sub r q s z h e f) (fill-sub r q s z h e a) ∙ sym (sub-apply z h (fill q f) (fill q a))

first-fits : (r : Head → Term) (a : Term) → Fits r (below r) (first a) (first (fill r a))
first-fits r a (Bound zero) = refl
first-fits r a (Bound (suc n)) = sym (sub-ren (first (fill r a)) next (r (Bound n)) ∙ sub_id (r (Bound n)))
first-fits r a (Con c) = sym (sub-ren (first (fill r a)) next (r (Con c)) ∙ sub_id (r (Con c)))
first-fits r a (Int c) = sym (sub-ren (first (fill r a)) next (r (Int c)) ∙ sub_id (r (Int c)))
first-fits r a (Str c) = sym (sub-ren (first (fill r a)) next (r (Str c)) ∙ sub_id (r (Str c)))
first-fits r a (Name c) = sym (sub-ren (first (fill r a)) next (r (Name c)) ∙ sub_id (r (Name c)))
first-fits r a (Var c) = sym (sub-ren (first (fill r a)) next (r (Var c)) ∙ sub_id (r (Var c)))

pub fill-opened : (r : Head → Term) (a b : Term) → ready (fill r a) ≡ true → fill r (sub (first a) b) ≡ sub (first (fill r a)) (fill (below r) b)
fill-opened r a b h = fill-sub r (below r) (first a) (first (fill r a)) (ready-first (fill r a) h) (first-fits r a) b

-- replacing heads commutes with application, and so twice is once
pub fill-apply : (r : Head → Term) → AllBuilt r → KeepsReady r → (f a : Term) → fill r (apply f a) ≡ apply (fill r f) (fill r a)
fill-apply r w k (Lam b) a = go (ready a) refl
  where
    go : (x : Bool) → ready a ≡ x → fill r (cond x (sub (first a) b) (App (Lam b) a)) ≡ apply (lam (fill (below r) b)) (fill r a)
    go true e = let e' : ready (fill r a) ≡ true = ready-fill r k a e in fill-opened r a b e' ∙ sym (apply-lam (fill (below r) b) (fill r a) (built-fill (below r) (below-built r w) b) e')
    go false e = refl
fill-apply r w k (At h) a = refl
fill-apply r w k (App f b) a = refl

below-fill : (r q : Head → Term) (h : Head) → fill (below r) (below q h) ≡ below (λ k. fill r (q k)) h
below-fill r q (Bound zero) = refl
below-fill r q (Bound (suc n)) = fill-shift r (q (Bound n))
below-fill r q (Con c) = fill-shift r (q (Con c))
below-fill r q (Int c) = fill-shift r (q (Int c))
below-fill r q (Str c) = fill-shift r (q (Str c))
below-fill r q (Name c) = fill-shift r (q (Name c))
below-fill r q (Var c) = fill-shift r (q (Var c))

pub below_keeps : (r : Head → Term) → KeepsReady r → KeepsReady (below r)
below_keeps r k (Bound zero) h = ready-bound zero
below_keeps r k (Bound (suc n)) h = ready-ren next (r (Bound n)) ∙ k (Bound n) (ready-bound n)
below_keeps r k (Con c) h = ready-ren next (r (Con c)) ∙ k (Con c) h
below_keeps r k (Int c) h = ready-ren next (r (Int c)) ∙ k (Int c) h
below_keeps r k (Str c) h = ready-ren next (r (Str c)) ∙ k (Str c) h
below_keeps r k (Name c) h = ready-ren next (r (Name c)) ∙ k (Name c) h
below_keeps r k (Var c) h = ready-ren next (r (Var c)) ∙ k (Var c) h

pub fill-fill : (r q : Head → Term) → AllBuilt r → KeepsReady r → (t : Term) → fill r (fill q t) ≡ fill (λ h. fill r (q h)) t
fill-fill r q w k (Lam b) = fill-lam r w (fill (below q) b) ∙ ap lam (fill-fill (below r) (below q) (below-built r w) (below_keeps r k) b ∙ ap (λ z. fill z b) (fun_ext (below-fill r q)))
fill-fill r q w k (At h) = refl
fill-fill r q w k (App f a) = fill-apply r w k (fill q f) (fill q a) ∙ ap₂ apply (fill-fill r q w k f) (fill-fill r q w k a)
