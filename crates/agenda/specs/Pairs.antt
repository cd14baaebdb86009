-- Lists of pairs of a rule and a constraint.
use Rattle.std.specs.Prelude.{◌≡◌, ℕ, ◌<◌, ◌⊎◌, Bool, false, ◌||◌, ◌&&◌, ◌==◌, nat_lt, if◌then◌else◌, List, [], ◌∷◌}

-- the first pair comes before the second: by rule, and then by constraint
abbrev pub IsBefore : ℕ × ℕ → ℕ × ℕ → Type 0
IsBefore p q = (p.0 < q.0) ⊎ ((p.0 ≡ q.0) × (p.1 < q.1))

-- the pair comes before all of the list
abbrev pub IsBeforeAll : ℕ × ℕ → List (ℕ × ℕ) → Type 0
IsBeforeAll p [] = Unit {0}
IsBeforeAll p (q ∷ qs) = IsBefore p q × IsBeforeAll p qs

-- each pair comes before all later ones, so none stands twice
abbrev pub IsOrdered : List (ℕ × ℕ) → Type 0
IsOrdered [] = Unit {0}
IsOrdered (p ∷ ps) = IsBeforeAll p ps × IsOrdered ps

-- whether the first pair comes before the second
unfoldable pub is_before : ℕ × ℕ → ℕ × ℕ → Bool
is_before p q = nat_lt p.0 q.0 || ((p.0 == q.0) && nat_lt p.1 q.1)

-- whether two pairs are the same
unfoldable pub same : ℕ × ℕ → ℕ × ℕ → Bool
same p q = (p.0 == q.0) && (p.1 == q.1)

-- whether the pair is in the list
abbrev pub has : List (ℕ × ℕ) → ℕ × ℕ → Bool
has [] p = false
has (q ∷ qs) p = same q p || has qs p

-- the list with the pair, in its place and once
abbrev pub put : ℕ × ℕ → List (ℕ × ℕ) → List (ℕ × ℕ)
put p [] = p ∷ []
put p (q ∷ qs) = if is_before p q then p ∷ q ∷ qs else (if same p q then q ∷ qs else q ∷ put p qs)

-- the list without the pair
abbrev pub without : ℕ × ℕ → List (ℕ × ℕ) → List (ℕ × ℕ)
without p [] = []
without p (q ∷ qs) = if same p q then qs else q ∷ without p qs
