-- Application and abstraction of a text's terms: they build as a text is built, and rebuilding commutes with them.
use Rattle.std.proofs.Common.{◌≡◌, ℕ, zero, suc, Bool, true, false, cond, refl, sym, ap, ◌∙◌, subst, Option, Some, None, option_map, IfSome}
use Rattle.ref_terms.specs.terms.Term.{Term, Lam, At, App, Head, Con, Int, Str, Name, Bound, Var}
use Rattle.ref_terms.specs.terms.Index.{ren, up, next, shift, under, sub, first}
use Rattle.ref_terms.specs.terms.Eta.{eta, lam, lam_of}
use Rattle.ref_terms.specs.terms.Ready.{ready}
use Rattle.ref_terms.specs.terms.Apply.{apply, below, fill}
use Rattle.ref_terms.specs.terms.Text.{bare, text_apply, IsTextStuck, IsTextBuilt}
use Rattle.ref_terms.specs.laws.TermLaws.{AllBuilt, KeepsReady}
use Rattle.ref_terms.specs.lemmas.ReadyFacts.{ready-name, ready-bound}
use Rattle.ref_terms.specs.lemmas.ComposeLemmas.{fill-apply}
use Rattle.ref_terms.specs.lemmas.EtaLemmas.{eta-sub, eta-some}
use Rattle.ref_terms.specs.lemmas.FillLemmas.{eta-ren, map_none}

-- the terms for indices are bare
abbrev AllBare : (ℕ → Term) → Type 0
AllBare s = (i : ℕ) → bare (s i) ≡ true

-- what renaming and substitution leave bare
bare-ren : (f : ℕ → ℕ) (t : Term) → bare (ren f t) ≡ bare t
bare-ren f (Lam b) = refl
bare-ren f (At (Con c)) = refl
bare-ren f (At _) = refl
bare-ren f (App g a) = refl

bare-under : (s : ℕ → Term) → AllBare s → AllBare (under s)
bare-under s h zero = refl
bare-under s h (suc n) = bare-ren next (s n) ∙ h n

bare-first : (a : Term) → bare a ≡ true → AllBare (first a)
bare-first a h zero = h
bare-first a h (suc n) = refl

bare-sub : (s : ℕ → Term) → AllBare s → (t : Term) → bare (sub s t) ≡ bare t
bare-sub s h (Lam b) = refl
bare-sub s h (At (Bound i)) = h i
bare-sub s h (At (Con c)) = refl
bare-sub s h (At _) = refl
bare-sub s h (App f a) = refl

-- a bare term is built, and no abstraction
bare-built : (t : Term) → bare t ≡ true → IsTextBuilt t
bare-built (Lam b) h = absurd (let e : false ≡ true = h in cc)
bare-built (At k) h = tt
bare-built (App f a) h = absurd (let e : false ≡ true = h in cc)

bare-stuck : (f a : Term) → bare f ≡ true → IsTextStuck f a
bare-stuck (Lam b) a h = absurd (let e : false ≡ true = h in cc)
bare-stuck (At k) a h = tt
bare-stuck (App f b) a h = tt

-- renaming what is built
stuck-ren : (f : ℕ → ℕ) (g a : Term) → IsTextStuck g a → IsTextStuck (ren f g) (ren f a)
stuck-ren f (Lam b) a w = bare-ren f a ∙ w
stuck-ren f (At h) a w = tt
stuck-ren f (App g b) a w = tt

stuck-unren : (f : ℕ → ℕ) (g a : Term) → IsTextStuck (ren f g) (ren f a) → IsTextStuck g a
stuck-unren f (Lam b) a w = sym (bare-ren f a) ∙ w
stuck-unren f (At h) a w = tt
stuck-unren f (App g b) a w = tt

text_built-unren : (f : ℕ → ℕ) (t : Term) → IsTextBuilt (ren f t) → IsTextBuilt t
text_built-unren f (Lam b) v = (text_built-unren (up f) b v.0, map_none (ren f) (eta b) (sym (eta-ren f b) ∙ v.1))
text_built-unren f (At h) v = tt
text_built-unren f (App g a) v = (text_built-unren f g v.0, text_built-unren f a v.1, stuck-unren f g a v.2)

-- substituting bare terms
stuck-sub : (s : ℕ → Term) → AllBare s → (f a : Term) → IsTextStuck f a → IsTextStuck (sub s f) (sub s a)
stuck-sub s h (Lam b) a w = bare-sub s h a ∙ w
stuck-sub s h (At (Bound i)) a w = bare-stuck (s i) (sub s a) (h i)
stuck-sub s h (At (Con c)) a w = tt
stuck-sub s h (At _) a w = tt
stuck-sub s h (App f b) a w = tt

text_built-sub : (s : ℕ → Term) → AllBare s → (t : Term) → IsTextBuilt t → IsTextBuilt (sub s t)
text_built-sub s h (Lam b) v = (text_built-sub (under s) (bare-under s h) b v.0, eta-sub s b ∙ ap (option_map (sub s)) v.1)
text_built-sub s h (At (Bound i)) v = bare-built (s i) (h i)
text_built-sub s h (At (Con c)) v = tt
text_built-sub s h (At _) v = tt
text_built-sub s h (App f a) v = (text_built-sub s h f v.0, text_built-sub s h a v.1, stuck-sub s h f a v.2)

-- application builds from what is built
pub text_built-apply : (f a : Term) → IsTextBuilt f → IsTextBuilt a → IsTextBuilt (text_apply f a)
text_built-apply (Lam b) a v w = go (bare a) refl
  where
    go : (r : Bool) → bare a ≡ r → IsTextBuilt (cond r (sub (first a) b) (App (Lam b) a))
    go true e = text_built-sub (first a) (bare-first a e) b v.0
    go false e = (v, w, e)
text_built-apply (At h) a v w = (v, w, tt)
text_built-apply (App f b) a v w = (v, w, tt)

-- and so does abstraction
pub text_built-lam : (b : Term) → IsTextBuilt b → IsTextBuilt (lam b)
text_built-lam b w = go (eta b) refl (eta-some b)
  where
    go : (o : Option Term) → eta b ≡ o → IfSome o (λ u. b ≡ App (shift u) (At (Bound zero))) → IsTextBuilt (lam_of o b)
    go None e h = (w, e)
    go (Some u) e h = text_built-unren next u ((subst IsTextBuilt h w).0)

-- a bare term is ready
pub bare-ready : (t : Term) → bare t ≡ true → ready t ≡ true
bare-ready (Lam b) h = absurd (let e : false ≡ true = h in cc)
bare-ready (At (Name n)) h = ready-name n
bare-ready (At (Bound i)) h = ready-bound i
bare-ready (At (Con c)) h = absurd (let e : false ≡ true = h in cc)
bare-ready (At (Int z)) h = absurd (let e : false ≡ true = h in cc)
bare-ready (At (Str s)) h = absurd (let e : false ≡ true = h in cc)
bare-ready (At (Var v)) h = absurd (let e : false ≡ true = h in cc)
bare-ready (App f a) h = absurd (let e : false ≡ true = h in cc)

-- rebuilding an application of a text
pub fill-text_apply : (r : Head → Term) → AllBuilt r → KeepsReady r → (f a : Term) → fill r (text_apply f a) ≡ apply (fill r f) (fill r a)
fill-text_apply r w k (Lam b) a = go (bare a) refl
  where
    opens : ready a ≡ true → apply (Lam b) a ≡ sub (first a) b
    opens e = rw e refl

    go : (x : Bool) → bare a ≡ x → fill r (cond x (sub (first a) b) (App (Lam b) a)) ≡ apply (fill r (Lam b)) (fill r a)
    go true e = ap (fill r) (sym (opens (bare-ready a e))) ∙ fill-apply r w k (Lam b) a
    go false e = refl
fill-text_apply r w k (At h) a = refl
fill-text_apply r w k (App f b) a = refl
