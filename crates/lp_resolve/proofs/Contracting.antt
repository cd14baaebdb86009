-- The parts of application and contraction.
use Rattle.std.proofs.Common.{◌≡◌, ◌∙◌, ℕ, zero, suc, Bool, true, false, List, [], ◌∷◌, ◌++◌, Option, Some, None, map, sym, ap, refl, cond}
use Rattle.std.proofs.Math.Path.{fun_ext}
use Rattle.std.specs.Option.{option_map}
use Rattle.ref_terms.specs.terms.Term.{Term, Head, Con, Int, Str, Name, Bound, Var, Lam, At, App}
use Rattle.ref_terms.specs.terms.Index.{sub, sub_head, first, under, shift, next}
use Rattle.ref_terms.specs.terms.Eta.{partial, partial_head, up_partial, both, previous, on_index, lower, eta}
use Rattle.ref_terms.specs.terms.Text.{text_apply}
use Rattle.lp_resolve.specs.inside.Replacing.{replaced, replacing}
use Rattle.lp_resolve.specs.inside.Build.{bound_index}

-- lowering is replacing by nothing
pub lower-replacing : (t : Term) → partial (replacing 0 None) t ≡ lower t
lower-replacing t = ap (λ (p : ℕ → Option ℕ). partial p t) (fun_ext same) where
  same : (n : ℕ) → replacing 0 None n ≡ previous n
  same zero = refl
  same (suc n) = refl

-- the innermost bound name as the last argument
pub innermost : (t : Term) (o : Option Term) → bound_index t ≡ Some 0 → on_index t o ≡ o
innermost (Lam b) o e = absurd (let bad = e in cc)
innermost (App f a) o e = absurd (let bad = e in cc)
innermost (At (Bound zero)) o e = refl
innermost (At (Bound (suc n))) o e = absurd (let bad : Some (suc n) ≡ Some 0 = e in cc)
innermost (At (Con c)) o e = absurd (let bad = e in cc)
innermost (At (Int z)) o e = absurd (let bad = e in cc)
innermost (At (Str s)) o e = absurd (let bad = e in cc)
innermost (At (Name n)) o e = absurd (let bad = e in cc)
innermost (At (Var v)) o e = absurd (let bad = e in cc)

-- another term as the last argument
pub not-innermost : (t : Term) (o : Option Term) → (bound_index t ≡ Some 0 → ⊥) → None ≡ on_index t o
not-innermost (Lam b) o e = refl
not-innermost (App f a) o e = refl
not-innermost (At (Bound zero)) o e = absurd (e refl)
not-innermost (At (Bound (suc n))) o e = refl
not-innermost (At (Con c)) o e = refl
not-innermost (At (Int z)) o e = refl
not-innermost (At (Str s)) o e = refl
not-innermost (At (Name n)) o e = refl
not-innermost (At (Var v)) o e = refl

-- a renaming that is there for all indices is a replacement
pub partial-sub : (p : ℕ → Option ℕ) (s : ℕ → Term) → ((n : ℕ) → option_map (λ j. At (Bound j)) (p n) ≡ Some (s n)) → (t : Term) → partial p t ≡ Some (sub s t)
partial-sub p s h (Lam b) = ap (option_map Lam) (partial-sub (up_partial p) (under s) deeper b) where
  moved : (o : Option ℕ) (t : Term) → option_map (λ j. At (Bound j)) o ≡ Some t → option_map (λ j. At (Bound j)) (option_map next o) ≡ Some (shift t)
  moved None t e = absurd (let bad = e in cc)
  moved (Some j) t e = let same : At (Bound j) ≡ t = cc in ap (λ u. Some (shift u)) same

  deeper : (n : ℕ) → option_map (λ j. At (Bound j)) (up_partial p n) ≡ Some (under s n)
  deeper zero = refl
  deeper (suc n) = moved (p n) (s n) (h n)
partial-sub p s h (At (Con c)) = refl
partial-sub p s h (At (Int z)) = refl
partial-sub p s h (At (Str c)) = refl
partial-sub p s h (At (Name n)) = refl
partial-sub p s h (At (Bound i)) = h i
partial-sub p s h (At (Var v)) = refl
partial-sub p s h (App f a) = rw (partial-sub p s h f, partial-sub p s h a) refl

-- an abstraction's own name replaced by another one
pub opening : (i : ℕ) (t : Term) → partial (replacing 0 (Some i)) t ≡ Some (sub (first (At (Bound i))) t)
opening i t = partial-sub (replacing 0 (Some i)) (first (At (Bound i))) at t where
  at : (n : ℕ) → option_map (λ j. At (Bound j)) (replacing 0 (Some i) n) ≡ Some (first (At (Bound i)) n)
  at zero = refl
  at (suc n) = refl
