-- Abstracting names.
use Rattle.std.specs.Prelude.{ℕ, zero, suc, cond, nat_eq, List, [], ◌∷◌, map}
use Rattle.ref_terms.specs.terms.Term.{Head, Name, Bound, Var, Term, At}
use Rattle.ref_terms.specs.terms.Eta.{lam}
use Rattle.ref_terms.specs.terms.Apply.{fill}
use Rattle.ref_terms.specs.unification.Spine.{apply_all}

-- the name becomes index 0, and the indices are one higher
abbrev pub closing : ℕ → Head → Term
closing n (Name k) = cond (nat_eq n k) (At (Bound zero)) (At (Name k))
closing n (Bound i) = At (Bound (suc i))
closing n h = At h

-- the term abstracted over a name
abbrev pub close : ℕ → Term → Term
close n t = lam (fill (closing n) t)

-- the term abstracted over names, the first one outermost
abbrev pub close_all : List ℕ → Term → Term
close_all [] t = t
close_all (n ∷ ns) t = close n (close_all ns t)

-- so many numbers from k on
abbrev pub up_from : (k : ℕ) → ℕ → List ℕ
up_from k zero = []
up_from k (suc n) = k ∷ up_from (suc k) n

-- the names in scope where there are n
abbrev pub names_below : ℕ → List ℕ
names_below n = up_from 0 n

-- over n names, the variable applied to those at the kept positions
abbrev pub keeping : (n : ℕ) → (kept : List ℕ) → (variable : ℕ) → Term
keeping n kept v = close_all (names_below n) (apply_all (At (Var v)) (map (λ i. At (Name i)) kept))
