-- Opening with a ready term, and instances, as replacements of heads.
use Rattle.std.proofs.Common.{◌≡◌, ℕ, zero, suc, Bool, true, false, cond, refl, sym, ap, ap₂, ◌∙◌, option_map}
use mathlib.Core.Path.{fun_ext}
use Rattle.ref_terms.specs.terms.Term.{Head, Con, Bound, Var, Term, Lam, At, App}
use Rattle.ref_terms.specs.terms.Index.{under, sub, sub_head, first}
use Rattle.ref_terms.specs.terms.Eta.{lam, lam_of}
use Rattle.ref_terms.specs.terms.Ready.{ready}
use Rattle.ref_terms.specs.terms.Apply.{apply, below, fill, opened, open_with}
use Rattle.ref_terms.specs.terms.Built.{IsBuilt, IsStuck}
use Rattle.ref_terms.specs.terms.Occurs.{is_variable}
use Rattle.ref_terms.specs.terms.Instance.{only, inst, valued, inst_all}
use Rattle.ref_terms.specs.laws.TermLaws.{AllBuilt, KeepsReady}
use Rattle.ref_terms.specs.lemmas.EtaLemmas.{eta-sub}
use Rattle.ref_terms.specs.lemmas.ReadyFacts.{ready-bound, ready-var, ready-sub, ready-fill}
use Rattle.ref_terms.specs.lemmas.ApplyLemmas.{AllReady, ready-under, ready-first, apply_ready}
use Rattle.ref_terms.specs.lemmas.FillLemmas.{apply-lam}
use Rattle.ref_terms.specs.lemmas.ComposeLemmas.{fill-apply}

-- replacing indices as replacing heads
below-under : (s : ℕ → Term) (h : Head) → below (sub_head s) h ≡ sub_head (under s) h
below-under s (Bound zero) = refl
below-under s (Bound (suc n)) = refl
below-under s (Con c) = refl
below-under s _ = refl

apply-sub : (s : ℕ → Term) → AllReady s → (f a : Term) → IsStuck f a → apply (sub s f) (sub s a) ≡ App (sub s f) (sub s a)
apply-sub s h (Lam b) a w = rw (ready-sub s h a ∙ w) refl
apply-sub s h (At (Bound i)) a w = apply_ready (s i) (sub s a) (h i)
apply-sub s h (At (Con c)) a w = refl
apply-sub s h (At _) a w = refl
apply-sub s h (App f b) a w = refl

pub fill-is-sub : (s : ℕ → Term) → AllReady s → (t : Term) → IsBuilt t → fill (sub_head s) t ≡ sub s t
fill-is-sub s h (Lam b) w =
    ap lam (ap (λ r. fill r b) (fun_ext (below-under s)) ∙ fill-is-sub (under s) (ready-under s h) b w.0)
    ∙ ap (λ o. lam_of o (sub (under s) b)) (eta-sub s b ∙ ap (λ o. option_map (sub s) o) w.1)
fill-is-sub s h (At k) w = refl
fill-is-sub s h (App f a) w = ap₂ apply (fill-is-sub s h f w.0) (fill-is-sub s h a w.1) ∙ apply-sub s h f a w.2

opened-first : (s : Term) (h : Head) → opened s h ≡ sub_head (first s) h
opened-first s (Bound zero) = refl
opened-first s (Bound (suc n)) = refl
opened-first s (Con c) = refl
opened-first s _ = refl

pub opening-is-replacing : (b s : Term) → IsBuilt b → ready s ≡ true → open_with b s ≡ sub (first s) b
opening-is-replacing b s w h = ap (λ r. fill r b) (fun_ext (opened-first s)) ∙ fill-is-sub (first s) (ready-first s h) b w

pub application-opens : (b s : Term) → IsBuilt b → ready s ≡ true → apply (lam b) s ≡ open_with b s
application-opens b s w h = apply-lam b s w h ∙ sym (opening-is-replacing b s w h)

-- instances
pub only-built : (v : ℕ) (u : Term) → IsBuilt u → AllBuilt (only v u)
only-built v u w h = go (is_variable v h)
  where
    go : (b : Bool) → IsBuilt (cond b u (At h))
    go true = w
    go false = tt

pub only-keeps : (v : ℕ) (u : Term) → KeepsReady (only v u)
only-keeps v u (Var w) h = absurd (let e : false ≡ true = sym (ready-var w) ∙ h in cc)
only-keeps v u (Con c) h = h
only-keeps v u _ h = h

pub inst-applies : (v : ℕ) (u f a : Term) → IsBuilt u → inst v u (apply f a) ≡ apply (inst v u f) (inst v u a)
inst-applies v u f a w = fill-apply (only v u) (only-built v u w) (only-keeps v u) f a

all-built : (u : ℕ → Term) → ((v : ℕ) → IsBuilt (u v)) → AllBuilt (valued u)
all-built u w (Var v) = w v
all-built u w (Con c) = tt
all-built u w _ = tt

all-keep : (u : ℕ → Term) → KeepsReady (valued u)
all-keep u (Var v) h = absurd (let e : false ≡ true = sym (ready-var v) ∙ h in cc)
all-keep u (Con c) h = h
all-keep u _ h = h

pub inst-all-applies : (u : ℕ → Term) → ((v : ℕ) → IsBuilt (u v)) → (f a : Term) → inst_all u (apply f a) ≡ apply (inst_all u f) (inst_all u a)
inst-all-applies u w f a = fill-apply (valued u) (all-built u w) (all-keep u) f a

-- ready terms under both
pub ready-inst : (v : ℕ) (u t : Term) → ready t ≡ true → ready (inst v u t) ≡ true
ready-inst v u t h = ready-fill (only v u) (only-keeps v u) t h

opened-keeps : (s : Term) → ready s ≡ true → KeepsReady (opened s)
opened-keeps s h (Bound zero) k = h
opened-keeps s h (Bound (suc n)) k = ready-bound n
opened-keeps s h (Con c) k = k
opened-keeps s h _ k = k

pub ready-open : (t s : Term) → ready t ≡ true → ready s ≡ true → ready (open_with t s) ≡ true
ready-open t s h k = ready-fill (opened s) (opened-keeps s k) t h

pub unready-open : (t s : Term) → IsBuilt t → ready t ≡ false → ready s ≡ true → ready (open_with t s) ≡ false
unready-open t s w h k = ap ready (opening-is-replacing t s w k) ∙ ready-sub (first s) (ready-first s k) t ∙ h
