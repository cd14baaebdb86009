-- A binding loses no solution.
use Rattle.std.proofs.Common.{◌≡◌, ℕ, zero, Bool, true, false, cond, nat_eq, eqb-true, List, [], ◌∷◌, map, refl, sym, ap, ◌∙◌}
use mathlib.Core.Path.{fun_ext}
use Rattle.ref_terms.specs.terms.Term.{Term, At, Head, Con, Name, Bound, Var}
use Rattle.ref_terms.specs.terms.Index.{ren_head, next}
use Rattle.ref_terms.specs.terms.Eta.{lam}
use Rattle.ref_terms.specs.terms.Apply.{apply, below, fill}
use Rattle.ref_terms.specs.terms.Instance.{valued, inst_all, only, inst}
use Rattle.ref_terms.specs.terms.Built.{IsBuilt}
use Rattle.ref_terms.specs.lemmas.FillLemmas.{below-built, built-apply}
use Rattle.ref_terms.specs.lemmas.ComposeLemmas.{fill-apply, fill-lam, fill-fill, below_keeps}
use Rattle.ref_terms.specs.unification.Spine.{apply_all}
use Rattle.ref_terms.specs.unification.Closing.{closing, close, close_all}
use Rattle.ref_terms.specs.unification.Problem.{Equation}
use Rattle.ref_terms.specs.unification.Bind.{inst_equation}
use Rattle.ref_terms.specs.terms.Occurs.{has_name}
use Rattle.ref_terms.specs.unification.Unifier.{IsSubstitution, IsUnifier}
use Rattle.ref_terms.specs.lemmas.NameLemmas.{close-apply, fill-agree_names, fill_ren, closing_built, closing_keeps, closing_shift, valued_built, valued_keeps}

module _ (u : ℕ → Term) (good : IsSubstitution u) where
  -- an instance goes through the abstraction of a name
  closing-valued : (n : ℕ) (h : Head) → fill (below (valued u)) (closing n h) ≡ fill (closing n) (valued u h)
  closing-valued n (Var v) = sym (fill-agree_names n (closing n) (λ h. At (ren_head next h)) (closing_shift n) (u v) (good.nameless v n) ∙ fill_ren (u v) (good.built v))
  closing-valued n (Name k) = go (nat_eq n k)
    where
      go : (b : Bool) → fill (below (valued u)) (cond b (At (Bound zero)) (At (Name k))) ≡ cond b (At (Bound zero)) (At (Name k))
      go true = refl
      go false = refl
  closing-valued n (Bound i) = refl
  closing-valued n (Con c) = refl
  closing-valued n _ = refl

  inst-close : (n : ℕ) (t : Term) → inst_all u (close n t) ≡ close n (inst_all u t)
  inst-close n t =
      fill-lam (valued u) (valued_built u good) (fill (closing n) t)
      ∙ ap lam (fill-fill (below (valued u)) (closing n) (below-built (valued u) (valued_built u good)) (below_keeps (valued u) (valued_keeps u)) t
      ∙ ap (λ r. fill r t) (fun_ext (closing-valued n))
      ∙ sym (fill-fill (closing n) (valued u) (closing_built n) (closing_keeps n) t))

  pub inst-close_all : (ns : List ℕ) (t : Term) → inst_all u (close_all ns t) ≡ close_all ns (inst_all u t)
  inst-close_all [] t = refl
  inst-close_all (n ∷ ns) t = inst-close n (close_all ns t) ∙ ap (close n) (inst-close_all ns t)

  -- names as arguments
  abbrev pub names_as_terms : List ℕ → List Term
  names_as_terms ns = map (λ n. At (Name n)) ns

  pub inst-applied : (ns : List ℕ) (t : Term) → inst_all u (apply_all t (names_as_terms ns)) ≡ apply_all (inst_all u t) (names_as_terms ns)
  inst-applied [] t = refl
  inst-applied (n ∷ ns) t = inst-applied ns (apply t (At (Name n))) ∙ ap (λ w. apply_all w (names_as_terms ns)) (fill-apply (valued u) (valued_built u good) (valued_keeps u) t (At (Name n)))

  -- none of the names stands in what they are applied to
  abbrev pub AllFresh : Term → List ℕ → Type 0
  AllFresh w [] = Unit {0}
  AllFresh w (n ∷ ns) = (has_name n w ≡ false) × AllFresh (apply w (At (Name n))) ns

  pub closed-applied : (ns : List ℕ) (w : Term) → IsBuilt w → AllFresh w ns → close_all ns (apply_all w (names_as_terms ns)) ≡ w
  closed-applied [] w b f = refl
  closed-applied (n ∷ ns) w b f = ap (close n) (closed-applied ns (apply w (At (Name n))) (built-apply w (At (Name n)) b tt) f.1) ∙ close-apply n w b f.0

  -- a solution gives the variable the instance of what it is bound to
  pub binding-forced : (v : ℕ) (ns : List ℕ) (t : Term) → AllFresh (u v) ns → (inst_all u (apply_all (At (Var v)) (names_as_terms ns)) ≡ inst_all u t) → u v ≡ inst_all u (close_all ns t)
  binding-forced v ns t f e =
      sym (closed-applied ns (u v) (good.built v) f)
      ∙ ap (close_all ns) (sym (inst-applied ns (At (Var v))) ∙ e)
      ∙ sym (inst-close_all ns t)

  -- and so it solves what the binding makes of the other equations
  pub forced : (v : ℕ) (c : Term) → u v ≡ inst_all u c → (h : Head) → fill (valued u) (only v c h) ≡ valued u h
  forced v c e (Var w) = go (nat_eq v w) refl
    where
      go : (b : Bool) → nat_eq v w ≡ b → fill (valued u) (cond b c (At (Var w))) ≡ u w
      go true q = let same : v ≡ w = eqb-true _ _ q in sym e ∙ ap u same
      go false q = refl
  forced v c e (Con k) = refl
  forced v c e _ = refl

  pub inst-forced : (v : ℕ) (c : Term) → u v ≡ inst_all u c → (t : Term) → inst_all u (inst v c t) ≡ inst_all u t
  inst-forced v c e t = fill-fill (valued u) (only v c) (valued_built u good) (valued_keeps u) t ∙ ap (λ r. fill r t) (fun_ext (forced v c e))

  pub binding-keeps : (v : ℕ) (c : Term) → u v ≡ inst_all u c → (es : List Equation) → IsUnifier u es → IsUnifier u (map (inst_equation v c) es)
  binding-keeps v c e [] s = tt
  binding-keeps v c e (q ∷ es) s = (inst-forced v c e q.left ∙ s.0 ∙ sym (inst-forced v c e q.right), binding-keeps v c e es s.1)
