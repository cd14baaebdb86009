-- The table of symbols: a list of texts, each at its number.
use Rattle.std.specs.Prelude.{◌≡◌, ℕ, Bool, false, nat_eq, List, [], ◌∷◌, ◌++◌, if◌then◌else◌, codes, fold}
use Rattle.std.specs.List.{list_any, position_or_len}
use Rattle.std.specs.Str.{bytes_eq}

-- The texts that every table begins with. The first 23 are reserved; the last two are words of tests.
abbrev pub reserved_names : List (List ℕ)
reserved_names = codes "true" ∷ codes "fail" ∷ codes "!" ∷ codes "," ∷ codes ";" ∷ codes "=>" ∷ codes ":-" ∷ codes "pi" ∷ codes "sigma"
    ∷ codes "=" ∷ codes "same" ∷ codes "var" ∷ codes "name" ∷ codes "is" ∷ codes "lt" ∷ codes "print" ∷ codes "beta" ∷ codes "declare_constraint"
    ∷ codes "[]" ∷ codes "::" ∷ codes "+" ∷ codes "-" ∷ codes "*" ∷ codes "nonvar" ∷ codes "distinct" ∷ []

-- the number of a text: its first place, or the table's length where it has none
abbrev pub number_of : (table : List (List ℕ)) → (text : List ℕ) → ℕ
number_of table text = position_or_len (bytes_eq text) table

-- the table with a text, which goes last where it is new
abbrev pub interned : (table : List (List ℕ)) → (text : List ℕ) → List (List ℕ)
interned table text = if list_any (bytes_eq text) table then table else table ++ text ∷ []

-- the table with each of these texts in turn
abbrev pub interned_all : (table : List (List ℕ)) → (texts : List (List ℕ)) → List (List ℕ)
interned_all table texts = fold interned table texts

-- whether a text begins with `_`
abbrev pub begins_low : List ℕ → Bool
begins_low [] = false
begins_low (byte ∷ text) = nat_eq byte 95

-- a list begins with another one
pub record Begins {A : Type 0} (front whole : List A) : Type 0 where
  pub more : List A
  pub is : whole ≡ front ++ more
