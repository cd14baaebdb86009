-- Comparing terms that are kept by their parts.
use Rattle.std.proofs.Common.{◌≡◌, ℕ, ◌<◌, ◌≤◌, ◌+◌, ◌++◌, List, [], ◌∷◌, length, sym, ap, ap₂, ◌∙◌, arith, subst, append-nil, append_assoc}
use Rattle.ref_terms.specs.terms.Term as term
use Rattle.ref_terms.specs.terms.Term.{Term}
use Rattle.beta_fragment.specs.declared.cells.Cell.{Cell}
use Rattle.beta_fragment.specs.declared.cells.Cell.TheVariants.{Lam, App}
use Rattle.beta_fragment.specs.declared.comparing.Sides.{Sides}
use Rattle.beta_fragment.specs.inside.Cells.{term_at, cell_term, HasParts}
use Rattle.beta_fragment.specs.inside.Compared.{term_size, AreThere, IsEqual, AllEqual, sides_size, Leaves}

size-some : (u : Term) → 1 ≤ term_size u
size-some (term.Lam b) = omega arith
size-some (term.At h) = omega arith
size-some (term.App f a) = omega arith

-- one list of pairs after another
there-append : (n : ℕ) (xs ys : List Sides) → AreThere n xs → AreThere n ys → AreThere n (xs ++ ys)
there-append n [] ys v w = w
there-append n (x ∷ xs) ys v w = (v.0, v.1, there-append n xs ys v.2 w)

there-front : (n : ℕ) (xs ys : List Sides) → AreThere n (xs ++ ys) → AreThere n xs
there-front n [] ys w = tt
there-front n (x ∷ xs) ys w = (w.0, w.1, there-front n xs ys w.2)

there-back : (n : ℕ) (xs ys : List Sides) → AreThere n (xs ++ ys) → AreThere n ys
there-back n [] ys w = w
there-back n (x ∷ xs) ys w = there-back n xs ys w.2

equal-append : (ts : List Term) (xs ys : List Sides) → AllEqual ts xs → AllEqual ts ys → AllEqual ts (xs ++ ys)
equal-append ts [] ys v w = w
equal-append ts (x ∷ xs) ys v w = (v.0, equal-append ts xs ys v.1 w)

equal-front : (ts : List Term) (xs ys : List Sides) → AllEqual ts (xs ++ ys) → AllEqual ts xs
equal-front ts [] ys w = tt
equal-front ts (x ∷ xs) ys w = (w.0, equal-front ts xs ys w.1)

equal-back : (ts : List Term) (xs ys : List Sides) → AllEqual ts (xs ++ ys) → AllEqual ts ys
equal-back ts [] ys w = w
equal-back ts (x ∷ xs) ys w = equal-back ts xs ys w.1

size-append : (ts : List Term) (xs ys : List Sides) → sides_size ts (xs ++ ys) ≡ sides_size ts xs + sides_size ts ys
size-append ts [] ys = omega arith
size-append ts (x ∷ xs) ys = let h = size-append ts xs ys in omega (arith, h)

-- equal terms have nothing left to compare
pub leaves-none : (ts : List Term) (s : Sides) (old : List Sides) → IsEqual ts s → Leaves ts s old old
leaves-none ts s old e = record {
  parts = [];
  pushed = sym (append-nil old);
  there = tt;
  whole = λ w. e;
  each = λ w. tt;
  less = size-some (term_at ts s.left);
}

pub leaves-same : (ts : List Term) (s : Sides) (old : List Sides) → s.left ≡ s.right → Leaves ts s old old
leaves-same ts s old e = leaves-none ts s old (ap (term_at ts) e)

-- abstractions leave their bodies
pub leaves-bodies : (ts : List Term) (s b : Sides) (old new : List Sides) (x y : Cell) → term_at ts s.left ≡ cell_term ts x → term_at ts s.right ≡ cell_term ts y → HasParts s.left x → HasParts s.right y → s.left < length ts → s.right < length ts → (x ≡ Lam b.left) × (y ≡ Lam b.right) → new ≡ old ++ b ∷ [] → Leaves ts s old new
leaves-bodies ts s b old new x y e f hx hy kx ky m p =
    let left : term_at ts s.left ≡ term.Lam (term_at ts b.left) = e ∙ ap (cell_term ts) m.0 in
    let right : term_at ts s.right ≡ term.Lam (term_at ts b.right) = f ∙ ap (cell_term ts) m.1 in
    let low : b.left < s.left = subst (HasParts s.left) m.0 hx in
    let low' : b.right < s.right = subst (HasParts s.right) m.1 hy in
    let size = ap term_size left in
    record {
      parts = b ∷ [];
      pushed = p;
      there = (omega (arith, low, kx), omega (arith, low', ky), tt);
      whole = λ w. left ∙ ap term.Lam w.0 ∙ sym right;
      each = λ w. (let q : term.Lam (term_at ts b.left) ≡ term.Lam (term_at ts b.right) = sym left ∙ w ∙ right in cc, tt);
      less = omega (arith, size);
    }

-- applications leave both parts
pub leaves-parts : (ts : List Term) (s h a : Sides) (old more new : List Sides) (x y : Cell) → term_at ts s.left ≡ cell_term ts x → term_at ts s.right ≡ cell_term ts y → HasParts s.left x → HasParts s.right y → s.left < length ts → s.right < length ts → (x ≡ App h.left a.left) × (y ≡ App h.right a.right) → more ≡ old ++ a ∷ [] → new ≡ more ++ h ∷ [] → Leaves ts s old new
leaves-parts ts s h a old more new x y e f hx hy kx ky m p q =
    let left : term_at ts s.left ≡ term.App (term_at ts h.left) (term_at ts a.left) = e ∙ ap (cell_term ts) m.0 in
    let right : term_at ts s.right ≡ term.App (term_at ts h.right) (term_at ts a.right) = f ∙ ap (cell_term ts) m.1 in
    let low : (h.left < s.left) × (a.left < s.left) = subst (HasParts s.left) m.0 hx in
    let low' : (h.right < s.right) × (a.right < s.right) = subst (HasParts s.right) m.1 hy in
    let size = ap term_size left in
    record {
      parts = a ∷ h ∷ [];
      pushed = q ∙ ap (λ zs. zs ++ h ∷ []) p ∙ append_assoc old (a ∷ []) (h ∷ []);
      there = (omega (arith, low.1, kx), omega (arith, low'.1, ky), (omega (arith, low.0, kx), omega (arith, low'.0, ky), tt));
      whole = λ w. left ∙ ap₂ term.App w.1.0 w.0 ∙ sym right;
      each = λ w. let q : term.App (term_at ts h.left) (term_at ts a.left) ≡ term.App (term_at ts h.right) (term_at ts a.right) = sym left ∙ w ∙ right in (cc, (cc, tt));
      less = omega (arith, size);
    }

-- a turn of the comparison, where the pair was the last of a list
module _ (ts : List Term) (s : Sides) (work rest new : List Sides) (split : work ≡ rest ++ s ∷ []) where
  pub pair-there : (n : ℕ) → AreThere n work → (s.left < n) × (s.right < n)
  pair-there n w = let h = there-back n rest (s ∷ []) (subst (AreThere n) split w) in (h.0, h.1)

  pub turn-there : AreThere (length ts) work → Leaves ts s rest new → AreThere (length ts) new
  turn-there w l = subst (AreThere (length ts)) (sym l.pushed) (there-append (length ts) rest l.parts (there-front (length ts) rest (s ∷ []) (subst (AreThere (length ts)) split w)) l.there)

  pub turn-whole : Leaves ts s rest new → AllEqual ts new → AllEqual ts work
  turn-whole l w =
      let v = subst (AllEqual ts) l.pushed w in
      subst (AllEqual ts) (sym split) (equal-append ts rest (s ∷ []) (equal-front ts rest l.parts v) (l.whole (equal-back ts rest l.parts v), tt))

  pub turn-each : Leaves ts s rest new → AllEqual ts work → AllEqual ts new
  turn-each l w =
      let v = subst (AllEqual ts) split w in
      subst (AllEqual ts) (sym l.pushed) (equal-append ts rest l.parts (equal-front ts rest (s ∷ []) v) (l.each (equal-back ts rest (s ∷ []) v).0))

  pub turn-differs : (IsEqual ts s → ⊥) → AllEqual ts work → ⊥
  turn-differs d w = d (equal-back ts rest (s ∷ []) (subst (AllEqual ts) split w)).0

  pub turn-falls : Leaves ts s rest new → sides_size ts new < sides_size ts work
  turn-falls l =
      let before = ap (sides_size ts) split ∙ size-append ts rest (s ∷ []) in
      let after = ap (sides_size ts) l.pushed ∙ size-append ts rest l.parts in
      let less = l.less in
      omega (arith, before, after, less)
