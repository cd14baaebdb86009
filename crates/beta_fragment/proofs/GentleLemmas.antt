-- Terms in the place of heads, where nothing reduces and nothing is contracted.
use Rattle.std.proofs.Common.{◌≡◌, ℕ, zero, suc, Bool, true, false, cond, Option, Some, None, option_map, refl, sym, ap, ap₂, ◌∙◌}
use mathlib.Core.Path.{fun_ext}
use Rattle.ref_terms.specs.terms.Term as term
use Rattle.ref_terms.specs.terms.Term.{Term, Head, At}
use Rattle.ref_terms.specs.terms.Index.{ren_head, next, shift, sub, first}
use Rattle.ref_terms.specs.terms.Eta.{up_partial, both, partial, previous, lower, on_index, eta, lam, lam_of}
use Rattle.ref_terms.specs.terms.Ready.{ready}
use Rattle.ref_terms.specs.terms.Apply.{apply, below, fill}
use Rattle.ref_terms.specs.terms.Built.{IsBuilt, IsStuck}
use Rattle.ref_terms.specs.lemmas.ReadyFacts.{ready-bound, ready-ren}
use Rattle.ref_terms.specs.lemmas.ComposeLemmas.{fill-shift}
use Rattle.beta_fragment.specs.Firm.{IsPlain}
use Rattle.beta_fragment.proofs.FirmLemmas.{apply-plain}

-- indices stay, no head gets an abstraction, and a head that isn't ready gets what isn't either
pub record IsGentle (r : Head → Term) : Type 0 where
  pub bounds : (i : ℕ) → r (term.Bound i) ≡ At (term.Bound i)
  pub plain : (h : Head) → IsPlain (r h)
  pub unready : (h : Head) → ready (At h) ≡ false → ready (r h) ≡ false

plain-shift : (t : Term) → IsPlain t → IsPlain (shift t)
plain-shift (term.Lam b) w = absurd w
plain-shift (At h) w = tt
plain-shift (term.App f a) w = tt

below-plain : (r : Head → Term) → ((h : Head) → IsPlain (r h)) → (h : Head) → IsPlain (below r h)
below-plain r w (term.Bound zero) = tt
below-plain r w (term.Bound (suc n)) = plain-shift (r (term.Bound n)) (w (term.Bound n))
below-plain r w (term.Con c) = plain-shift (r (term.Con c)) (w (term.Con c))
below-plain r w (term.Int c) = plain-shift (r (term.Int c)) (w (term.Int c))
below-plain r w (term.Str c) = plain-shift (r (term.Str c)) (w (term.Str c))
below-plain r w (term.Name c) = plain-shift (r (term.Name c)) (w (term.Name c))
below-plain r w (term.Var c) = plain-shift (r (term.Var c)) (w (term.Var c))

not-unready : (i : ℕ) → ready (At (term.Bound i)) ≡ false → ⊥
not-unready i e = let k : true ≡ false = sym (ready-bound i) ∙ e in absurd (cc)

below-unready : (r : Head → Term) → ((h : Head) → ready (At h) ≡ false → ready (r h) ≡ false) → (h : Head) → ready (At h) ≡ false → ready (below r h) ≡ false
below-unready r w (term.Bound i) e = absurd (not-unready i e)
below-unready r w (term.Con c) e = ready-ren next (r (term.Con c)) ∙ w (term.Con c) e
below-unready r w (term.Int c) e = ready-ren next (r (term.Int c)) ∙ w (term.Int c) e
below-unready r w (term.Str c) e = ready-ren next (r (term.Str c)) ∙ w (term.Str c) e
below-unready r w (term.Name c) e = ready-ren next (r (term.Name c)) ∙ w (term.Name c) e
below-unready r w (term.Var c) e = ready-ren next (r (term.Var c)) ∙ w (term.Var c) e

below-bounds : (r : Head → Term) → ((i : ℕ) → r (term.Bound i) ≡ At (term.Bound i)) → (i : ℕ) → below r (term.Bound i) ≡ At (term.Bound i)
below-bounds r w zero = refl
below-bounds r w (suc n) = ap shift (w n)

below-gentle : (r : Head → Term) → IsGentle r → IsGentle (below r)
below-gentle r g = record {
  bounds = below-bounds r g.bounds;
  plain = below-plain r g.plain;
  unready = below-unready r g.unready;
}

-- terms in the place of heads, with nothing rebuilt
abbrev in_place : (Head → Term) → Term → Term
in_place r (term.Lam b) = term.Lam (in_place (below r) b)
in_place r (At h) = r h
in_place r (term.App f a) = term.App (in_place r f) (in_place r a)

-- an index that had no image has none afterwards
both-none : (x y x' y' : Option Term) → (x ≡ None → x' ≡ None) → (y ≡ None → y' ≡ None) → both x y ≡ None → both x' y' ≡ None
both-none None y x' y' f g e = ap (λ z. both z y') (f refl)
both-none (Some u) None x' y' f g e = go x' (g refl)
  where
    go : (z : Option Term) → y' ≡ None → both z y' ≡ None
    go None k = refl
    go (Some v) k = ap (both (Some v)) k
both-none (Some u) (Some v) x' y' f g e = absurd (cc)

map-none : (o o' : Option Term) → (o ≡ None → o' ≡ None) → option_map term.Lam o ≡ None → option_map term.Lam o' ≡ None
map-none None o' f e = ap (option_map term.Lam) (f refl)
map-none (Some u) o' f e = absurd (cc)

none-stays : (r : Head → Term) → IsGentle r → (p : ℕ → Option ℕ) (t : Term) → partial p t ≡ None → partial p (in_place r t) ≡ None
none-stays r g p (term.Lam b) e = map-none (partial (up_partial p) b) (partial (up_partial p) (in_place (below r) b)) (none-stays (below r) (below-gentle r g) (up_partial p) b) e
none-stays r g p (At (term.Bound i)) e = ap (partial p) (g.bounds i) ∙ e
none-stays r g p (At (term.Con c)) e = absurd (cc)
none-stays r g p (At (term.Int c)) e = absurd (cc)
none-stays r g p (At (term.Str c)) e = absurd (cc)
none-stays r g p (At (term.Name c)) e = absurd (cc)
none-stays r g p (At (term.Var c)) e = absurd (cc)
none-stays r g p (term.App f a) e = both-none (partial p f) (partial p a) (partial p (in_place r f)) (partial p (in_place r a)) (none-stays r g p f) (none-stays r g p a) e

-- what comes from outside an abstraction isn't its index
shifted-index : (t : Term) (o : Option Term) → on_index (shift t) o ≡ None
shifted-index (term.Lam b) o = refl
shifted-index (At (term.Bound i)) o = refl
shifted-index (At (term.Con c)) o = refl
shifted-index (At (term.Int c)) o = refl
shifted-index (At (term.Str c)) o = refl
shifted-index (At (term.Name c)) o = refl
shifted-index (At (term.Var c)) o = refl
shifted-index (term.App f a) o = refl

shifted-eta : (t : Term) → eta (shift t) ≡ None
shifted-eta (term.Lam b) = refl
shifted-eta (At h) = refl
shifted-eta (term.App f a) = shifted-index a (lower (shift f))

-- so no abstraction is contracted that wasn't before
eta-stays : (r : Head → Term) → IsGentle r → (b : Term) → eta b ≡ None → eta (in_place (below r) b) ≡ None
eta-stays r g (term.Lam b) e = refl
eta-stays r g (At (term.Bound zero)) e = refl
eta-stays r g (At (term.Bound (suc n))) e = shifted-eta (r (term.Bound n))
eta-stays r g (At (term.Con c)) e = shifted-eta (r (term.Con c))
eta-stays r g (At (term.Int c)) e = shifted-eta (r (term.Int c))
eta-stays r g (At (term.Str c)) e = shifted-eta (r (term.Str c))
eta-stays r g (At (term.Name c)) e = shifted-eta (r (term.Name c))
eta-stays r g (At (term.Var c)) e = shifted-eta (r (term.Var c))
eta-stays r g (term.App f (term.Lam a)) e = refl
eta-stays r g (term.App f (term.App a c)) e = refl
eta-stays r g (term.App f (At (term.Bound zero))) e = none-stays (below r) (below-gentle r g) previous f e
eta-stays r g (term.App f (At (term.Bound (suc n)))) e = shifted-index (r (term.Bound n)) (lower (in_place (below r) f))
eta-stays r g (term.App f (At (term.Con c))) e = shifted-index (r (term.Con c)) (lower (in_place (below r) f))
eta-stays r g (term.App f (At (term.Int c))) e = shifted-index (r (term.Int c)) (lower (in_place (below r) f))
eta-stays r g (term.App f (At (term.Str c))) e = shifted-index (r (term.Str c)) (lower (in_place (below r) f))
eta-stays r g (term.App f (At (term.Name c))) e = shifted-index (r (term.Name c)) (lower (in_place (below r) f))
eta-stays r g (term.App f (At (term.Var c))) e = shifted-index (r (term.Var c)) (lower (in_place (below r) f))

-- and no abstraction takes an argument
unready-stays : (r : Head → Term) → IsGentle r → (t : Term) → ready t ≡ false → ready (in_place r t) ≡ false
unfolding ready
unready-stays r g (term.Lam b) e = refl
unready-stays r g (At h) e = g.unready h e
unready-stays r g (term.App f a) e = unready-stays r g f e

stuck-stays : (r : Head → Term) → IsGentle r → (f a : Term) → IsStuck f a → apply (in_place r f) (in_place r a) ≡ term.App (in_place r f) (in_place r a)
stuck-stays r g (term.Lam b) a w = ap (λ c. cond c (sub (first (in_place r a)) (in_place (below r) b)) (term.App (term.Lam (in_place (below r) b)) (in_place r a))) (unready-stays r g a w)
stuck-stays r g (At h) a w = apply-plain (r h) (in_place r a) (g.plain h)
stuck-stays r g (term.App f b) a w = refl

pub fill-in_place : (r : Head → Term) → IsGentle r → (t : Term) → IsBuilt t → fill r t ≡ in_place r t
fill-in_place r g (term.Lam b) w = ap lam (fill-in_place (below r) (below-gentle r g) b w.0) ∙ ap (λ o. lam_of o (in_place (below r) b)) (eta-stays r g b w.1)
fill-in_place r g (At h) w = refl
fill-in_place r g (term.App f a) w = ap₂ apply (fill-in_place r g f w.0) (fill-in_place r g a w.1) ∙ stuck-stays r g f a w.2

-- heads twice are heads once
below-fill : (q r : Head → Term) (h : Head) → fill (below q) (below r h) ≡ below (λ k. fill q (r k)) h
below-fill q r (term.Bound zero) = refl
below-fill q r (term.Bound (suc n)) = fill-shift q (r (term.Bound n))
below-fill q r (term.Con c) = fill-shift q (r (term.Con c))
below-fill q r (term.Int c) = fill-shift q (r (term.Int c))
below-fill q r (term.Str c) = fill-shift q (r (term.Str c))
below-fill q r (term.Name c) = fill-shift q (r (term.Name c))
below-fill q r (term.Var c) = fill-shift q (r (term.Var c))

fill-after_place : (q r : Head → Term) (t : Term) → fill q (in_place r t) ≡ fill (λ h. fill q (r h)) t
fill-after_place q r (term.Lam b) = ap lam (fill-after_place (below q) (below r) b ∙ ap (λ z. fill z b) (fun_ext (below-fill q r)))
fill-after_place q r (At h) = refl
fill-after_place q r (term.App f a) = ap₂ apply (fill-after_place q r f) (fill-after_place q r a)

-- where the first replacement reduces nothing, one after the other is both at once
pub fill-gently : (q r : Head → Term) → IsGentle r → (t : Term) → IsBuilt t → fill q (fill r t) ≡ fill (λ h. fill q (r h)) t
fill-gently q r g t w = ap (fill q) (fill-in_place r g t w) ∙ fill-after_place q r t
