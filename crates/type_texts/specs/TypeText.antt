-- Types as text.
use Rattle.std.specs.Prelude.{ℕ, Bool, true, false, not, ◌&&◌, nat_eq, if◌then◌else◌, codes, fold, List, [], ◌∷◌, ◌++◌, slice_index_or}
use Rattle.std.specs.List.{list_any, position_or_len}
use Rattle.std.specs.Fmt.{decimal}
use Rattle.type_graph.specs.declared.node.Word.{Word}
use Rattle.type_graph.specs.declared.node.Word.TheVariants.{Int, Text, Prop, List as ListWord, Arrow, Kind}
use Rattle.type_texts.specs.OpenTypes.{OpenType, open_variable, open_word, open_applied}

-- the variables of a type, from the left, each as often as it stands there
abbrev pub variables_in : OpenType → List ℕ
variables_in (open_variable x) = x ∷ []
variables_in (open_word w) = []
variables_in (open_applied f a) = variables_in f ++ variables_in a

-- a number that goes last where it is new, and each of these in turn
abbrev pub noted : List ℕ → ℕ → List ℕ
noted xs x = if list_any (nat_eq x) xs then xs else xs ++ x ∷ []

abbrev pub noted_all : List ℕ → List ℕ → List ℕ
noted_all xs ys = fold noted xs ys

-- the first place of a number
abbrev pub place_in : List ℕ → ℕ → ℕ
place_in xs x = position_or_len (nat_eq x) xs

abbrev pub word_is_arrow : Word → Bool
word_is_arrow Int = false
word_is_arrow Text = false
word_is_arrow Prop = false
word_is_arrow ListWord = false
word_is_arrow Arrow = true
word_is_arrow (Kind n) = false

-- whether a type is the word of arrows; that word applied to a left side; an arrow
abbrev pub is_arrow_word : OpenType → Bool
is_arrow_word (open_variable x) = false
is_arrow_word (open_word w) = word_is_arrow w
is_arrow_word (open_applied f a) = false

abbrev pub is_left_of_arrow : OpenType → Bool
is_left_of_arrow (open_variable x) = false
is_left_of_arrow (open_word w) = false
is_left_of_arrow (open_applied f a) = is_arrow_word f

abbrev pub is_arrow : OpenType → Bool
is_arrow (open_variable x) = false
is_arrow (open_word w) = false
is_arrow (open_applied f a) = is_left_of_arrow f

-- whether a type isn't a single word or variable
abbrev pub is_applied : OpenType → Bool
is_applied (open_variable x) = false
is_applied (open_word w) = false
is_applied (open_applied f a) = true

-- a text, in round brackets or not
abbrev pub bracketed : Bool → List ℕ → List ℕ
bracketed brackets text = if brackets then codes "(" ++ (text ++ codes ")") else text

-- the text of a word of types, over the table of names
abbrev pub word_text : List (List ℕ) → Word → List ℕ
word_text table Int = codes "int"
word_text table Text = codes "string"
word_text table Prop = codes "prop"
word_text table ListWord = codes "list"
word_text table Arrow = codes "->"
word_text table (Kind n) = slice_index_or table n []

-- The text of a type, its variables known by their places in a list: `A0`, `A1`. An arrow is its left side, `->` and its
-- right side; a word is followed by its arguments. A left side that is an arrow, and an argument that isn't a single word or
-- variable, stand in round brackets.
abbrev pub type_text : (table : List (List ℕ)) (variables : List ℕ) → OpenType → List ℕ
type_text table variables (open_variable x) = codes "A" ++ decimal (place_in variables x)
type_text table variables (open_word w) = word_text table w
type_text table variables (open_applied f a) =
    if is_arrow_word f then bracketed (is_arrow a) (type_text table variables a) ++ codes " ->"
    else type_text table variables f ++ (codes " " ++ bracketed (not (is_left_of_arrow f) && is_applied a) (type_text table variables a))
