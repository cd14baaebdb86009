-- The words that are bound around a term, and where their binders stand.
use Rattle.std.specs.Prelude.{◌≡◌, ℕ, nat_eq, List, [], ◌∷◌, length, map, Option, Some, None, if◌then◌else◌}
use Rattle.lp_resolve.specs.declared.scope.Binder.{Binder}

-- the bound words
abbrev pub words_of : List Binder → List ℕ
words_of binders = map (λ b. b.word) binders

-- how many binders stand outside the nearest one of a word, where the innermost is listed first
abbrev pub level_of : List Binder → (word : ℕ) → Option ℕ
level_of [] word = None
level_of (b ∷ outer) word = if nat_eq word b.word then Some (length outer) else level_of outer word

-- each binder knows the one that it hides
abbrev pub AreHiding : List Binder → Type 0
AreHiding [] = Unit {0}
AreHiding (b ∷ outer) = (b.hidden ≡ level_of outer b.word) × AreHiding outer

-- The binders, innermost first, and a map from words to the levels of their nearest binders.
pub record IsScope (binders : List Binder) (nearest : ℕ → Option ℕ) : Type 0 where
  pub hiding : AreHiding binders
  pub levels : (word : ℕ) → nearest word ≡ level_of binders word
