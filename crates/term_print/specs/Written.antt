-- What is written of a text, and what is seen in it.
use Rattle.std.specs.Prelude.{◌≡◌, ℕ, List, [], ◌∷◌, ◌++◌}
use Rattle.lam_io.specs.Writes.{IsFront}
use Rattle.ref_terms.specs.texts.Text.{Part, Bytes, Free}
use Rattle.ref_terms.specs.texts.Numbering.{seen_also, numbered}

-- the variables that were seen, oldest first, after more of a text
abbrev pub seen_after : (seen : List ℕ) → List Part → List ℕ
seen_after seen [] = seen
seen_after seen (Bytes bs ∷ ps) = seen_after seen ps
seen_after seen (Free v ∷ ps) = seen_after (seen_also v seen) ps

-- a front of the text was put last
abbrev pub GainsFront : (text old new : List ℕ) → Type 0
GainsFront text old new = (more : List ℕ) × (new ≡ old ++ more) × IsFront text more

-- what was written, and the variables that were seen in it
pub record Page : Type 0 where
  pub text : List ℕ
  pub seen : List ℕ

-- the front of the parts was written; what is left of them is the rest
pub record Prints (old : Page) (ps : List Part) (new : Page) (rest : List Part) : Type 0 where
  pub more : List ℕ
  pub text : new.text ≡ old.text ++ more
  pub parts : numbered old.seen ps ≡ more ++ numbered new.seen rest
  pub seen : seen_after old.seen ps ≡ seen_after new.seen rest

-- writing the parts stopped at a front of their text
abbrev pub Stops : Page → List Part → (new : List ℕ) → Type 0
Stops old ps new = GainsFront (numbered old.seen ps) old.text new
