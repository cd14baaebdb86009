-- The positions of a spine that a binding keeps. Positions count from 0.
use Rattle.std.specs.Prelude.{ℕ, suc, cond, not, nat_eq, List, [], ◌∷◌, filter}
use Rattle.std.specs.List.{list_any}
use Rattle.ref_terms.specs.unification.Pattern.{SpineName, same_name}
use Rattle.ref_terms.specs.unification.Closing.{names_below}

-- those from i on at which both spines have one name
abbrev pub agreeing : (i : ℕ) → List SpineName → List SpineName → List ℕ
agreeing i (x ∷ xs) (y ∷ ys) = cond (same_name x y) (i ∷ agreeing (suc i) xs ys) (agreeing (suc i) xs ys)
agreeing i _ _ = []

-- those from i on of the left spine, where the name also stands in the right one
abbrev pub shared : (i : ℕ) → List SpineName → List SpineName → List ℕ
shared i [] ys = []
shared i (x ∷ xs) ys = cond (list_any (same_name x) ys) (i ∷ shared (suc i) xs ys) (shared (suc i) xs ys)

-- where a name stands in a spine that begins at i
abbrev pub position : (i : ℕ) → SpineName → List SpineName → ℕ
position i x [] = i
position i x (y ∷ ys) = cond (same_name x y) i (position (suc i) x ys)

-- where the shared names stand in the right spine, in the order of the left one
abbrev pub positions_of : (i : ℕ) → List SpineName → List SpineName → List ℕ
positions_of i [] ys = []
positions_of i (x ∷ xs) ys = cond (list_any (same_name x) ys) (position 0 x ys ∷ positions_of (suc i) xs ys) (positions_of (suc i) xs ys)

-- all of n positions but i
abbrev pub all_but : (i n : ℕ) → List ℕ
all_but i n = filter (λ k. not (nat_eq i k)) (names_below n)
