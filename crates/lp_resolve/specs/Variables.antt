-- The variables of a clause, a rule or a query.
use Rattle.std.specs.Prelude.{◌≡◌, ℕ, Bool, true, false, not, ◌&&◌, nat_eq, List, [], ◌∷◌, ◌++◌, length, Option, position, if◌then◌else◌}
use Rattle.std.specs.List.{list_any, position_or_len}
use Rattle.lp_parser.specs.declared.ast.Place.{Place}
use Rattle.lp_resolve.specs.declared.variable.Variable.{Variable}

-- The variables that were met: each at its number, in the order of their first places; and the places of all their
-- words, from the left.
pub record Met : Type 0 where
  pub names : List Variable
  pub places : List Place

-- none yet
abbrev pub nothing_met : Met
nothing_met = record { names = []; places = [] }

-- whether a word is this variable's; no word is that of a hole
abbrev pub is_of : (word : ℕ) → Variable → Bool
is_of word v = not v.hole && nat_eq word v.name.0

-- a variable of this word
abbrev pub variable : (word : ℕ) → (hole : Bool) → Variable
variable word hole = record { name = record { 0 = word }; hole = hole }

-- the number of a word: that of its variable, or the next one where it is new
abbrev pub number_in : List Variable → (word : ℕ) → ℕ
number_in names word = position_or_len (is_of word) names

-- the variables with a word's, which goes last where it is new
abbrev pub with_word : (word : ℕ) → List Variable → List Variable
with_word word names = if list_any (is_of word) names then names else names ++ variable word false ∷ []

-- the variables with a hole, which is always new
abbrev pub with_hole : (word : ℕ) → List Variable → List Variable
with_hole word names = names ++ variable word true ∷ []

-- what was met, with a word at its place
abbrev pub met_word : (word : ℕ) → Place → Met → Met
met_word word place met = record { names = with_word word met.names; places = met.places ++ place ∷ [] }

-- what was met, with a hole at its place
abbrev pub met_hole : (word : ℕ) → Place → Met → Met
met_hole word place met = record { names = with_hole word met.names; places = met.places ++ place ∷ [] }

-- a map from words to the numbers of their variables
abbrev pub AreNumbered : List Variable → (ℕ → Option ℕ) → Type 0
AreNumbered names numbers = (word : ℕ) → numbers word ≡ position (is_of word) names
