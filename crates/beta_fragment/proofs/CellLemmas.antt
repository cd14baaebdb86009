-- Terms that are kept stay as others are added.
use Rattle.std.proofs.Common.{◌≡◌, ℕ, ◌<◌, ◌++◌, List, [], ◌∷◌, length, cond, nat_eq, Bool, true, false, refl, sym, ap, ◌∙◌, arith, length-append, append_assoc, eqb-true}
use Rattle.ref_terms.specs.terms.Term.{Term}
use Rattle.ref_terms.specs.lemmas.NameLemmas.{nat_eq_self}
use Rattle.beta_fragment.specs.inside.Cells.{term_at, Gains, IsKept}

-- an older term
pub at-older : (x : Term) (older : List Term) (i : ℕ) → i < length older → term_at (x ∷ older) i ≡ term_at older i
at-older x older i k = go (nat_eq (length older) i) refl
  where
    go : (b : Bool) → nat_eq (length older) i ≡ b → cond b x (term_at older i) ≡ term_at older i
    go true e = let q : length older ≡ i = eqb-true _ _ e in absurd (omega (arith, k, q))
    go false e = refl

pub at-more : (more old : List Term) (i : ℕ) → i < length old → term_at (more ++ old) i ≡ term_at old i
at-more [] old i k = refl
at-more (x ∷ more) old i k =
    let long = length-append more old in
    at-older x (more ++ old) i (omega (arith, k, long)) ∙ at-more more old i k

-- the newest term
pub at-newest : (x : Term) (older : List Term) → term_at (x ∷ older) (length older) ≡ x
at-newest x older = go (nat_eq (length older) (length older)) refl
  where
    go : (b : Bool) → nat_eq (length older) (length older) ≡ b → cond b x (term_at older (length older)) ≡ x
    go true e = refl
    go false e = absurd (let q : true ≡ false = sym (nat_eq_self (length older)) ∙ e in cc)

-- nothing, one term, and one list after another
pub gains-refl : (ts : List Term) → Gains ts ts
gains-refl ts = ([], refl)

pub gains-one : (x : Term) (ts : List Term) → Gains ts (x ∷ ts)
gains-one x ts = (x ∷ [], refl)

pub gains-trans : (a b c : List Term) → Gains a b → Gains b c → Gains a c
gains-trans a b c (more, e) (more', f) = (more' ++ more, f ∙ ap (λ ts. more' ++ ts) e ∙ sym (append_assoc more' more a))

-- what was kept is kept
pub kept-gains : (old new : List Term) (i : ℕ) (u : Term) → Gains old new → IsKept old i u → IsKept new i u
kept-gains old new i u (more, e) k =
    let long = ap length e ∙ length-append more old in
    let there = k.there in
    record {
      there = omega (arith, long, there);
      term = ap (λ ts. term_at ts i) e ∙ at-more more old i k.there ∙ k.term;
    }

pub gains-longer : (old new : List Term) → Gains old new → (i : ℕ) → i < length old → i < length new
gains-longer old new (more, e) i k =
    let long = ap length e ∙ length-append more old in
    omega (arith, long, k)

pub gains-at : (old new : List Term) → Gains old new → (i : ℕ) → i < length old → term_at new i ≡ term_at old i
gains-at old new (more, e) i k = ap (λ ts. term_at ts i) e ∙ at-more more old i k

-- the term that was added is kept
pub kept-newest : (x : Term) (ts : List Term) → IsKept (x ∷ ts) (length ts) x
kept-newest x ts = record { there = omega arith; term = at-newest x ts }
