-- Whether a variable stands in a term that is renamed or abstracted.
use Rattle.std.proofs.Common.{◌≡◌, ℕ, zero, ◌||◌, Bool, true, false, Option, Some, None, IfSome, refl, sym, ap, ◌∙◌}
use Rattle.ref_terms.specs.terms.Term as term
use Rattle.ref_terms.specs.terms.Term.{Term, At}
use Rattle.ref_terms.specs.terms.Index.{ren, up, next, shift}
use Rattle.ref_terms.specs.terms.Eta.{eta, lam, lam_of}
use Rattle.ref_terms.specs.terms.Occurs.{occurs}
use Rattle.ref_terms.specs.lemmas.EtaLemmas.{eta-some}

pub or_left : (a b : Bool) → a ≡ true → (a || b) ≡ true
or_left true b e = refl
or_left false b e = absurd (let k : false ≡ true = e in cc)

pub or_right : (a b : Bool) → b ≡ true → (a || b) ≡ true
or_right true b e = refl
or_right false b e = e

-- renaming, replacing indices and abstraction keep each variable
pub occurs-ren : (v : ℕ) (f : ℕ → ℕ) (t : Term) → occurs v (ren f t) ≡ occurs v t
occurs-ren v f (term.Lam b) = occurs-ren v (up f) b
occurs-ren v f (At (term.Con c)) = refl
occurs-ren v f (At _) = refl
occurs-ren v f (term.App t a) = λ i. occurs-ren v f t i || occurs-ren v f a i

pub occurs-lam : (v : ℕ) (b : Term) → occurs v (lam b) ≡ occurs v b
occurs-lam v b = go (eta b) (eta-some b)
  where
    none : (x : Bool) → x ≡ (x || false)
    none true = refl
    none false = refl

    go : (o : Option Term) → IfSome o (λ u. b ≡ term.App (shift u) (At (term.Bound zero))) → occurs v (lam_of o b) ≡ occurs v b
    go None h = refl
    go (Some u) h = sym (occurs-ren v next u) ∙ none (occurs v (shift u)) ∙ sym (ap (occurs v) h)
