-- A fresh name tells two terms apart.
use Rattle.std.proofs.Common.{◌≡◌, ℕ, zero, suc, Bool, true, false, cond, ◌||◌, nat_eq, refl, sym, ap, ap₂, ◌∙◌, arith, Option, Some, None, IfSome}
use Rattle.ref_terms.specs.terms.Term.{Term, Lam, At, App, Head, Con, Int, Str, Name, Bound, Var}
use Rattle.ref_terms.specs.terms.Index.{ren, ren_head, next, shift, up, under, sub, first}
use Rattle.ref_terms.specs.terms.Eta.{eta, lam, lam_of}
use Rattle.ref_terms.specs.lemmas.EtaLemmas.{eta-some}
use Rattle.ref_terms.specs.terms.Ready.{ready}
use Rattle.ref_terms.specs.terms.Apply.{apply, below, fill}
use Rattle.ref_terms.specs.terms.Instance.{valued, inst_all}
use Rattle.ref_terms.specs.terms.Built.{IsBuilt}
use Rattle.ref_terms.specs.lemmas.TermLemmas.{ren_id}
use Rattle.ref_terms.specs.lemmas.ReadyFacts.{ready-name, ready-bound, ready-var}
use Rattle.ref_terms.specs.lemmas.FillLemmas.{built-fill}
use Rattle.ref_terms.specs.lemmas.ComposeLemmas.{fill-apply, fill-ren, lam-apply}
use Rattle.ref_terms.specs.lemmas.OccursLemmas.{fill_at}
use Rattle.ref_terms.specs.unification.Closing.{closing, close}
use Rattle.ref_terms.specs.terms.Occurs.{is_name, has_name}
use Rattle.ref_terms.specs.unification.Unifier.{IsSubstitution}
use Rattle.ref_terms.specs.laws.TermLaws.{KeepsReady, AllBuilt}

pub or_left : (a b : Bool) → (a || b) ≡ false → a ≡ false
or_left false b e = refl
or_left true b e = e

pub or_right : (a b : Bool) → (a || b) ≡ false → b ≡ false
or_right false b e = e
or_right true b e = absurd (let k : true ≡ false = e in cc)

-- both replacements agree at all heads but the name
abbrev pub AgreeButName : ℕ → (Head → Term) → (Head → Term) → Type 0
AgreeButName x r q = (h : Head) → is_name x h ≡ false → r h ≡ q h

below-agree : (x : ℕ) (r q : Head → Term) → AgreeButName x r q → AgreeButName x (below r) (below q)
below-agree x r q e (Bound zero) k = refl
below-agree x r q e (Bound (suc n)) k = ap shift (e (Bound n) refl)
below-agree x r q e (Con c) k = ap shift (e (Con c) refl)
below-agree x r q e (Int c) k = ap shift (e (Int c) refl)
below-agree x r q e (Str c) k = ap shift (e (Str c) refl)
below-agree x r q e (Name c) k = ap shift (e (Name c) k)
below-agree x r q e (Var c) k = ap shift (e (Var c) refl)

pub fill-agree_names : (x : ℕ) (r q : Head → Term) → AgreeButName x r q → (t : Term) → has_name x t ≡ false → fill r t ≡ fill q t
fill-agree_names x r q e (Lam b) n = ap lam (fill-agree_names x (below r) (below q) (below-agree x r q e) b n)
fill-agree_names x r q e (At h) n = e h n
fill-agree_names x r q e (App f a) n = ap₂ apply (fill-agree_names x r q e f (or_left _ _ n)) (fill-agree_names x r q e a (or_right _ _ n))

pub closing_keeps : (x : ℕ) → KeepsReady (closing x)
closing_keeps x (Name n) h = go (nat_eq x n)
  where
    go : (b : Bool) → ready (cond b (At (Bound zero)) (At (Name n))) ≡ true
    go true = ready-bound zero
    go false = ready-name n
closing_keeps x (Bound n) h = ready-bound (suc n)
closing_keeps x (Con c) h = h
closing_keeps x (Int c) h = h
closing_keeps x (Str c) h = h
closing_keeps x (Var c) h = h

pub closing_built : (x : ℕ) → AllBuilt (closing x)
closing_built x (Name n) = go (nat_eq x n)
  where
    go : (b : Bool) → IsBuilt (cond b (At (Bound zero)) (At (Name n)))
    go true = tt
    go false = tt
closing_built x (Con c) = tt
closing_built x _ = tt

pub closing_shift : (x : ℕ) (h : Head) → is_name x h ≡ false → closing x h ≡ At (ren_head next h)
closing_shift x (Name n) e = rw e refl
closing_shift x (Con c) e = refl
closing_shift x _ e = refl

ren_head_id : (h : Head) → ren_head (λ i. i) h ≡ h
ren_head_id (Con c) = refl
ren_head_id _ = refl

pub fill_ren : (t : Term) → IsBuilt t → fill (λ h. At (ren_head next h)) t ≡ shift t
fill_ren t w = ap (fill (λ h. At (ren_head next h))) (sym (ren_id t)) ∙ fill-ren (λ h. At (ren_head next h)) (λ h. At h) (λ i. i) next (λ h. ap (λ k. At (ren_head next k)) (ren_head_id h)) t ∙ ap shift (fill_at t w)

pub nat_eq_self : (n : ℕ) → nat_eq n n ≡ true
nat_eq_self n = grind arith

-- what a fresh name was put into is found again
pub close-apply : (x : ℕ) (t : Term) → IsBuilt t → has_name x t ≡ false → close x (apply t (At (Name x))) ≡ t
close-apply x t w n =
    ap lam (fill-apply (closing x) (closing_built x) (closing_keeps x) t (At (Name x))
    ∙ ap₂ apply (fill-agree_names x (closing x) (λ h. At (ren_head next h)) (closing_shift x) t n ∙ fill_ren t w) (ap (λ b. cond b (At (Bound zero)) (At (Name x))) (nat_eq_self x)))
    ∙ lam-apply t w

-- an instance gains no name
pub or_both : (a b : Bool) → a ≡ false → b ≡ false → (a || b) ≡ false
or_both a b e f = rw (e, f) refl

pub has_name-ren : (x : ℕ) (f : ℕ → ℕ) (t : Term) → has_name x (ren f t) ≡ has_name x t
has_name-ren x f (Lam b) = has_name-ren x (up f) b
has_name-ren x f (At (Con c)) = refl
has_name-ren x f (At _) = refl
has_name-ren x f (App t a) = ap₂ (λ (a b : Bool). a || b) (has_name-ren x f t) (has_name-ren x f a)

nameless-sub : (x : ℕ) (s : ℕ → Term) → ((i : ℕ) → has_name x (s i) ≡ false) → (t : Term) → has_name x t ≡ false → has_name x (sub s t) ≡ false
nameless-sub x s h (Lam b) e = nameless-sub x (under s) nameless-under b e
  where
    nameless-under : (i : ℕ) → has_name x (under s i) ≡ false
    nameless-under zero = refl
    nameless-under (suc n) = has_name-ren x next (s n) ∙ h n
nameless-sub x s h (At (Bound i)) e = h i
nameless-sub x s h (At (Con c)) e = refl
nameless-sub x s h (At (Name n)) e = e
nameless-sub x s h (At _) e = refl
nameless-sub x s h (App f a) e = or_both _ _ (nameless-sub x s h f (or_left _ _ e)) (nameless-sub x s h a (or_right _ _ e))

pub nameless-apply : (x : ℕ) (f a : Term) → has_name x f ≡ false → has_name x a ≡ false → has_name x (apply f a) ≡ false
nameless-apply x (Lam b) a e d = go (ready a)
  where
    nameless-first : (i : ℕ) → has_name x (first a i) ≡ false
    nameless-first zero = d
    nameless-first (suc n) = refl

    go : (r : Bool) → has_name x (cond r (sub (first a) b) (App (Lam b) a)) ≡ false
    go true = nameless-sub x (first a) nameless-first b e
    go false = or_both _ _ e d
nameless-apply x (At h) a e d = or_both _ _ e d
nameless-apply x (App f b) a e d = or_both _ _ e d

pub nameless-lam : (x : ℕ) (b : Term) → has_name x b ≡ false → has_name x (lam b) ≡ false
nameless-lam x b e = go (eta b) (eta-some b)
  where
    go : (o : Option Term) → IfSome o (λ u. b ≡ App (shift u) (At (Bound zero))) → has_name x (lam_of o b) ≡ false
    go None h = e
    go (Some u) h = sym (has_name-ren x next u) ∙ or_left _ _ (ap (has_name x) (sym h) ∙ e)

pub nameless-fill : (x : ℕ) (r : Head → Term) → ((h : Head) → is_name x h ≡ false → has_name x (r h) ≡ false) → (t : Term) → has_name x t ≡ false → has_name x (fill r t) ≡ false
nameless-fill x r k (Lam b) e = nameless-lam x (fill (below r) b) (nameless-fill x (below r) lower_one b e)
  where
    lower_one : (h : Head) → is_name x h ≡ false → has_name x (below r h) ≡ false
    lower_one (Bound zero) n = refl
    lower_one (Bound (suc i)) n = has_name-ren x next (r (Bound i)) ∙ k (Bound i) refl
    lower_one (Con c) n = has_name-ren x next (r (Con c)) ∙ k (Con c) refl
    lower_one (Int c) n = has_name-ren x next (r (Int c)) ∙ k (Int c) refl
    lower_one (Str c) n = has_name-ren x next (r (Str c)) ∙ k (Str c) refl
    lower_one (Name c) n = has_name-ren x next (r (Name c)) ∙ k (Name c) n
    lower_one (Var c) n = has_name-ren x next (r (Var c)) ∙ k (Var c) refl
nameless-fill x r k (At h) e = k h e
nameless-fill x r k (App f a) e = nameless-apply x (fill r f) (fill r a) (nameless-fill x r k f (or_left _ _ e)) (nameless-fill x r k a (or_right _ _ e))

valued_nameless : (u : ℕ → Term) → IsSubstitution u → (x : ℕ) (h : Head) → is_name x h ≡ false → has_name x (valued u h) ≡ false
valued_nameless u s x (Var v) e = s.nameless v x
valued_nameless u s x (Name n) e = e
valued_nameless u s x (Con c) e = refl
valued_nameless u s x _ e = refl

pub inst-nameless : (u : ℕ → Term) → IsSubstitution u → (x : ℕ) (t : Term) → has_name x t ≡ false → has_name x (inst_all u t) ≡ false
inst-nameless u s x t n = nameless-fill x (valued u) (valued_nameless u s x) t n

pub valued_built : (u : ℕ → Term) → IsSubstitution u → AllBuilt (valued u)
valued_built u s (Var v) = s.built v
valued_built u s (Con c) = tt
valued_built u s _ = tt

pub valued_keeps : (u : ℕ → Term) → KeepsReady (valued u)
valued_keeps u (Var v) h = absurd (let e : false ≡ true = sym (ready-var v) ∙ h in cc)
valued_keeps u (Con c) h = h
valued_keeps u _ h = h

-- the rule for abstractions keeps the solutions
pub abstraction-same : (u : ℕ → Term) → IsSubstitution u → (x : ℕ) (s t : Term) → has_name x s ≡ false → has_name x t ≡ false
    → (inst_all u (apply s (At (Name x))) ≡ inst_all u (apply t (At (Name x)))) → (inst_all u s ≡ inst_all u t)
abstraction-same u k x s t fs ft e =
    sym (close-apply x (inst_all u s) (built-fill (valued u) (valued_built u k) s) (inst-nameless u k x s fs))
    ∙ ap (close x) (sym (fill-apply (valued u) (valued_built u k) (valued_keeps u) s (At (Name x))) ∙ e ∙ fill-apply (valued u) (valued_built u k) (valued_keeps u) t (At (Name x)))
    ∙ close-apply x (inst_all u t) (built-fill (valued u) (valued_built u k) t) (inst-nameless u k x t ft)
