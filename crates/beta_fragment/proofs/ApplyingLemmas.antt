-- Application and abstraction of kept terms.
use Rattle.std.proofs.Common.{◌≡◌, ℕ, ◌<◌, List, ◌∷◌, length, refl, sym, ap, ◌∙◌, subst, Option, Some, None, Result, Ok, Err, IfOk, OnErr}
use Rattle.ref_terms.specs.terms.Term as term
use Rattle.ref_terms.specs.terms.Term.{Term}
use Rattle.ref_terms.specs.terms.Eta.{eta, lam, lam_of}
use Rattle.beta_fragment.specs.declared.cells.Cell.{Cell}
use Rattle.beta_fragment.specs.inside.Cells.{term_at, terms_of, Gains, IsKept, IsKeptIfAny}
use Rattle.beta_fragment.proofs.CellLemmas.{gains-at}
use Rattle.beta_fragment.proofs.KeptLemmas.{added-kept, added-gains, same-gains}

-- a term was added, or nothing was
pub added-or_same : {E : Type 0} (r : Result ℕ E) (old new : List Cell) (x : Term) → IfOk r (λ i. terms_of new ≡ x ∷ terms_of old) → OnErr r (new ≡ old) → Gains (terms_of old) (terms_of new)
added-or_same (Ok i) old new x h k = added-gains (terms_of old) (terms_of new) x h
added-or_same (Err e) old new x h k = same-gains old new k

none-of : (ts : List Term) (o : Option Term) → IsKeptIfAny ts None o → o ≡ None
none-of ts None h = refl
none-of ts (Some x) h = absurd h

-- an abstraction that doesn't contract
pub abstracted-kept : {E : Type 0} (r : Result ℕ E) (old mid new : List Term) (body : ℕ) → Gains old mid → body < length old → IsKeptIfAny mid None (eta (term_at old body)) → IfOk r (λ i. i ≡ length mid) → IfOk r (λ i. new ≡ term.Lam (term_at mid body) ∷ mid) → IfOk r (λ i. IsKept new i (lam (term_at old body)))
abstracted-kept (Err e) old mid new body g b none n h = tt
abstracted-kept (Ok i) old mid new body g b none n h =
    let same : term.Lam (term_at mid body) ≡ lam (term_at old body) =
    ap term.Lam (gains-at old mid g body b) ∙ sym (ap (λ o. lam_of o (term_at old body)) (none-of mid (eta (term_at old body)) none)) in
    subst (IsKept new i) same (added-kept mid new (term.Lam (term_at mid body)) i n h)
