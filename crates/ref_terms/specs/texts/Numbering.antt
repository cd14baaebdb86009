-- Variables of a text, numbered by first place.
use Rattle.std.specs.Prelude.{ℕ, suc, cond, nat_eq, List, [], ◌∷◌, ◌++◌, decimal}
use Rattle.std.specs.List.{list_any}
use Rattle.ref_terms.specs.texts.Text.{Part, Bytes, Free}

-- the place of a variable among those seen, or the number of these
abbrev pub place_of : ℕ → List ℕ → ℕ
place_of v [] = 0
place_of v (w ∷ ws) = cond (nat_eq v w) 0 (suc (place_of v ws))

-- with this variable last, where it is new
abbrev pub seen_also : ℕ → List ℕ → List ℕ
seen_also v ws = cond (list_any (nat_eq v) ws) ws (ws ++ v ∷ [])

-- the bytes of a text, its variables numbered by first place
abbrev pub numbered : List ℕ → List Part → List ℕ
numbered seen [] = []
numbered seen (Bytes bs ∷ ps) = bs ++ numbered seen ps
numbered seen (Free v ∷ ps) = 63 ∷ decimal (place_of v seen) ++ numbered (seen_also v seen) ps

-- the bytes of the text of one event
abbrev pub text_of : List Part → List ℕ
text_of ps = numbered [] ps
