-- Replacing heads brings no variable that the terms for them don't have.
use Rattle.std.proofs.Common.{◌≡◌, ℕ, zero, suc, cond, Bool, true, false, refl, ◌∙◌}
use Rattle.ref_terms.specs.terms.Term.{Term, Head, At, Lam, App, Con, Int, Str, Name, Bound, Var}
use Rattle.ref_terms.specs.terms.Index.{next, sub, under, first}
use Rattle.ref_terms.specs.terms.Ready.{ready}
use Rattle.ref_terms.specs.terms.Apply.{apply, below, fill}
use Rattle.ref_terms.specs.terms.Occurs.{is_variable, occurs}
use Rattle.ref_terms.specs.lemmas.NameLemmas.{or_left, or_right, or_both}
use Rattle.pattern_unify.proofs.OccursLemmas.{occurs-ren, occurs-lam}

absent-sub : (v : ℕ) (s : ℕ → Term) → ((i : ℕ) → occurs v (s i) ≡ false) → (t : Term) → occurs v t ≡ false → occurs v (sub s t) ≡ false
absent-sub v s h (Lam b) e = absent-sub v (under s) absent-under b e
  where
    absent-under : (i : ℕ) → occurs v (under s i) ≡ false
    absent-under zero = refl
    absent-under (suc n) = occurs-ren v next (s n) ∙ h n
absent-sub v s h (At (Bound i)) e = h i
absent-sub v s h (At (Con c)) e = refl
absent-sub v s h (At (Var w)) e = e
absent-sub v s h (At _) e = refl
absent-sub v s h (App f a) e = or_both _ _ (absent-sub v s h f (or_left _ _ e)) (absent-sub v s h a (or_right _ _ e))

pub absent-apply : (v : ℕ) (f a : Term) → occurs v f ≡ false → occurs v a ≡ false → occurs v (apply f a) ≡ false
absent-apply v (Lam b) a e d = go (ready a)
  where
    absent-first : (i : ℕ) → occurs v (first a i) ≡ false
    absent-first zero = d
    absent-first (suc n) = refl

    go : (r : Bool) → occurs v (cond r (sub (first a) b) (App (Lam b) a)) ≡ false
    go true = absent-sub v (first a) absent-first b e
    go false = or_both _ _ e d
absent-apply v (At h) a e d = or_both _ _ e d
absent-apply v (App f b) a e d = or_both _ _ e d

pub absent-fill : (v : ℕ) (r : Head → Term) → ((h : Head) → is_variable v h ≡ false → occurs v (r h) ≡ false) → (t : Term) → occurs v t ≡ false → occurs v (fill r t) ≡ false
absent-fill v r k (Lam b) e = occurs-lam v (fill (below r) b) ∙ absent-fill v (below r) lower_one b e
  where
    lower_one : (h : Head) → is_variable v h ≡ false → occurs v (below r h) ≡ false
    lower_one (Bound zero) n = refl
    lower_one (Bound (suc i)) n = occurs-ren v next (r (Bound i)) ∙ k (Bound i) refl
    lower_one (Con c) n = occurs-ren v next (r (Con c)) ∙ k (Con c) refl
    lower_one (Int c) n = occurs-ren v next (r (Int c)) ∙ k (Int c) refl
    lower_one (Str c) n = occurs-ren v next (r (Str c)) ∙ k (Str c) refl
    lower_one (Name c) n = occurs-ren v next (r (Name c)) ∙ k (Name c) refl
    lower_one (Var c) n = occurs-ren v next (r (Var c)) ∙ k (Var c) n
absent-fill v r k (At h) e = k h e
absent-fill v r k (App f a) e = absent-apply v (fill r f) (fill r a) (absent-fill v r k f (or_left _ _ e)) (absent-fill v r k a (or_right _ _ e))
