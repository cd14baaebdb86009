-- What a write leaves in a sink.
use Rattle.std.specs.Prelude.{◌≡◌, ℕ, List, ◌++◌, ⊤, None, Some, MatchResult}
use Rattle.std.specs.declared.option.Option.{Option}
use Rattle.std.specs.declared.result.Result.{Result}

-- where bytes were told, they stay at the front, and what came behind them has P
abbrev pub Appended : Option (List ℕ) → Option (List ℕ) → (List ℕ → Type 0) → Type 0
Appended None after P = ⊤
Appended (Some old) after P = (more : List ℕ) × (after ≡ Some (old ++ more)) × P more

-- a front of the whole
abbrev pub IsFront : List ℕ → List ℕ → Type 0
IsFront whole front = (rest : List ℕ) × (front ++ rest ≡ whole)

-- a write appends the whole piece, or fails and appends a front of it
abbrev pub Writes : {T E : Type 0} →
    Option (List ℕ) → Option (List ℕ) → List ℕ → Result T E → Type 0
Writes before after piece result =
    MatchResult result
    (λ _. Appended before after (λ more. more ≡ piece))
    (λ _. Appended before after (IsFront piece))

-- the first if it is there, else the second
abbrev pub first_of_two : Option (List ℕ) → Option (List ℕ) → Option (List ℕ)
first_of_two None second = second
first_of_two (Some first) second = Some first

-- what was told at the first stop: a write that fails notes it, and later ones leave it
abbrev pub Stops : {T E : Type 0} → Option (List ℕ) → Option (List ℕ) →
    Option (List ℕ) → Option (List ℕ) → Result T E → Type 0
Stops None after before now result = ⊤
Stops (Some old) after before now result =
    MatchResult result (λ _. now ≡ before) (λ _. now ≡ first_of_two before after)
