-- Comparing terms that are kept by their parts.
use Rattle.std.specs.Prelude.{◌≡◌, ℕ, ◌+◌, ◌<◌, Bool, true, false, List, [], ◌∷◌, ◌++◌, length}
use Rattle.ref_terms.specs.terms.Term as term
use Rattle.ref_terms.specs.terms.Term.{Term}
use Rattle.beta_fragment.specs.declared.cells.Cell.{Cell}
use Rattle.beta_fragment.specs.declared.cells.Cell.TheVariants.{Lam, App}
use Rattle.beta_fragment.specs.declared.comparing.Sides.{Sides}
use Rattle.beta_fragment.specs.declared.comparing.Likeness.{Likeness}
use Rattle.beta_fragment.specs.declared.comparing.Likeness.TheVariants.{Equal, Differ, Bodies, Parts}
use Rattle.beta_fragment.specs.inside.Cells.{term_at, cell_term}

-- how large a term is
abbrev pub term_size : Term → ℕ
term_size (term.Lam b) = 1 + term_size b
term_size (term.At h) = 1
term_size (term.App f a) = 1 + (term_size f + term_size a)

-- both terms of each pair are there
abbrev pub AreThere : ℕ → List Sides → Type 0
AreThere n [] = Unit {0}
AreThere n (s ∷ more) = (s.left < n) × (s.right < n) × AreThere n more

-- the terms of a pair are equal
abbrev pub IsEqual : List Term → Sides → Type 0
IsEqual ts s = term_at ts s.left ≡ term_at ts s.right

-- so of each pair
abbrev pub AllEqual : List Term → List Sides → Type 0
AllEqual ts [] = Unit {0}
AllEqual ts (s ∷ more) = IsEqual ts s × AllEqual ts more

-- how much there is to compare
abbrev pub sides_size : List Term → List Sides → ℕ
sides_size ts [] = 0
sides_size ts (s ∷ more) = term_size (term_at ts s.left) + sides_size ts more

-- a pair of terms is equal exactly where its parts are, which were put onto the list
pub record Leaves (ts : List Term) (s : Sides) (old new : List Sides) : Type 0 where
  pub parts : List Sides
  pub pushed : new ≡ old ++ parts
  pub there : AreThere (length ts) parts
  pub whole : AllEqual ts parts → IsEqual ts s
  pub each : IsEqual ts s → AllEqual ts parts
  pub less : sides_size ts parts < term_size (term_at ts s.left)

-- so, or the terms differ
abbrev pub ComesTo : List Term → Sides → (old new : List Sides) → Bool → Type 0
ComesTo ts s old new true = Leaves ts s old new
ComesTo ts s old new false = IsEqual ts s → ⊥

-- what two cells tell of their terms
abbrev pub IsLikeness : List Term → Cell → Cell → Likeness → Type 0
IsLikeness ts a b Equal = cell_term ts a ≡ cell_term ts b
IsLikeness ts a b Differ = cell_term ts a ≡ cell_term ts b → ⊥
IsLikeness ts a b (Bodies s) = (a ≡ Lam s.left) × (b ≡ Lam s.right)
IsLikeness ts a b (Parts f x) = (a ≡ App f.left x.left) × (b ≡ App f.right x.right)

-- what a test of equality tells
abbrev pub told_by : Bool → Likeness
told_by true = Equal
told_by false = Differ
