-- Terms in the places of names, all at once.
use Rattle.std.specs.Prelude.{ℕ, suc, cond, List, [], ◌∷◌}
use Rattle.ref_terms.specs.terms.Term.{Term, Head, At}
use Rattle.ref_terms.specs.terms.Occurs.{is_name}
use Rattle.beta_fragment.specs.Firm.{IsPlain}

-- terms in the places of the names from n on, the first one in that of n; other heads stay
abbrev pub put_names : (n : ℕ) → List Term → Head → Term
put_names n [] h = At h
put_names n (s ∷ ss) h = cond (is_name n h) s (put_names (suc n) ss h)

-- none of the terms is an abstraction
abbrev pub AllPlain : List Term → Type 0
AllPlain [] = Unit {0}
AllPlain (s ∷ ss) = IsPlain s × AllPlain ss
