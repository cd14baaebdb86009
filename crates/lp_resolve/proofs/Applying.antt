-- An abstraction that is applied.
use Rattle.std.proofs.Common.{◌≡◌, ◌∙◌, ℕ, zero, suc, Bool, true, false, Option, Some, None, sym, ap, refl, cond}
use Rattle.ref_terms.specs.terms.Term.{Term, Head, Con, Int, Str, Name, Bound, Var, Lam, At, App}
use Rattle.ref_terms.specs.terms.Index.{sub, first}
use Rattle.ref_terms.specs.terms.Text.{text_apply}
use Rattle.lp_resolve.specs.inside.Build.{bound_index}
use Rattle.lp_resolve.proofs.Shapes.{IsNoName}

-- a bound name is put in
pub apply-bound : (b a : Term) (i : ℕ) → bound_index a ≡ Some i → text_apply (Lam b) a ≡ sub (first (At (Bound i))) b
apply-bound b (Lam c) i e = absurd (let bad = e in cc)
apply-bound b (App f a) i e = absurd (let bad = e in cc)
apply-bound b (At (Bound j)) i e = let same : j ≡ i = cc in ap (λ k. sub (first (At (Bound k))) b) same
apply-bound b (At (Con c)) i e = absurd (let bad = e in cc)
apply-bound b (At (Int z)) i e = absurd (let bad = e in cc)
apply-bound b (At (Str s)) i e = absurd (let bad = e in cc)
apply-bound b (At (Name n)) i e = absurd (let bad = e in cc)
apply-bound b (At (Var v)) i e = absurd (let bad = e in cc)

-- another term, which is no name, is stuck
pub apply-stuck : (b a : Term) → IsNoName a → bound_index a ≡ None → text_apply (Lam b) a ≡ App (Lam b) a
apply-stuck b (Lam c) n e = refl
apply-stuck b (App f a) n e = refl
apply-stuck b (At (Bound j)) n e = absurd (let bad = e in cc)
apply-stuck b (At (Con c)) n e = refl
apply-stuck b (At (Int z)) n e = refl
apply-stuck b (At (Str s)) n e = refl
apply-stuck b (At (Name m)) n e = absurd n
apply-stuck b (At (Var v)) n e = refl
