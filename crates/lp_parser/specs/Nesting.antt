-- How deep lexemes are nested.
use Rattle.std.specs.Prelude.{ℕ, ◌+◌, ◌≤◌, List, [], ◌∷◌, sum, take}
use Rattle.lp_parser.specs.declared.lexeme.Closer.{Closer}
use Rattle.lp_parser.specs.declared.lexeme.Closer.TheVariants.{Round, Square, Bar}
use Rattle.lp_parser.specs.declared.lexeme.Mark.{Mark}
use Rattle.lp_parser.specs.declared.lexeme.Mark.TheVariants.{Dot, OpenCurly, CloseCurly, Arrow}
use Rattle.lp_parser.specs.declared.lexeme.Lexeme.{Lexeme}
use Rattle.lp_parser.specs.declared.lexeme.Lexeme.TheVariants as lexeme
use Rattle.lp_parser.specs.declared.binders.Binders.{Binders}
use Rattle.lp_parser.specs.declared.binders.Binders.TheVariants.{Elsewhere, Quantifier, Words}

-- The counts of the open frames, the innermost first, and what the next lexeme stands behind.
pub record Nesting : Type 0 where
  pub frames : List ℕ
  pub binders : Binders

-- An item or a query begins with one frame, in which nothing counts yet.
abbrev pub flat : Nesting
flat = record { frames = 0 ∷ []; binders = Elsewhere }

-- what a word stands behind, a further word of a quantifier too
abbrev pub behind_word : Binders → Binders
behind_word Elsewhere = Elsewhere
behind_word Quantifier = Words
behind_word Words = Words

-- what the lexeme behind a lexeme stands behind
abbrev pub binders_after : Binders → Lexeme → Binders
binders_after b (lexeme.Word k x p) = behind_word b
binders_after b (lexeme.Quantifier q p) = Quantifier
binders_after b (lexeme.Literal l p) = Elsewhere
binders_after b (lexeme.Infix o p) = Elsewhere
binders_after b (lexeme.Lambda p) = Elsewhere
binders_after b (lexeme.OpenRound p) = Elsewhere
binders_after b (lexeme.OpenSquare p) = Elsewhere
binders_after b (lexeme.Closer c p) = Elsewhere
binders_after b (lexeme.Mark m p) = Elsewhere

-- one more in the innermost frame
abbrev pub one_more : List ℕ → List ℕ
one_more [] = 1 ∷ []
one_more (n ∷ ns) = (n + 1) ∷ ns

-- the frames without the innermost; the frame of the item stays
abbrev pub without_inner : List ℕ → List ℕ
without_inner [] = 0 ∷ []
without_inner (n ∷ []) = 0 ∷ []
without_inner (n ∷ m ∷ ns) = m ∷ ns

-- A word counts where it is bound by a quantifier behind the first such word.
abbrev pub frames_after_word : Binders → List ℕ → List ℕ
frames_after_word Elsewhere ns = ns
frames_after_word Quantifier ns = ns
frames_after_word Words ns = one_more ns

-- A `)` or `]` drops its frame and all that was counted in it.
abbrev pub frames_after_closer : Closer → List ℕ → List ℕ
frames_after_closer Round ns = without_inner ns
frames_after_closer Square ns = without_inner ns
frames_after_closer Bar ns = ns

-- `->` counts, and behind `.`, `{` and `}` a new item or rule begins.
abbrev pub frames_after_mark : Mark → List ℕ → List ℕ
frames_after_mark Arrow ns = one_more ns
frames_after_mark Dot ns = 0 ∷ []
frames_after_mark OpenCurly ns = 0 ∷ []
frames_after_mark CloseCurly ns = 0 ∷ []
frames_after_mark _ ns = ns

-- The frames behind a lexeme: `(` and `[` begin a frame and count 1 in it, and `\` and each operator count 1 in theirs.
abbrev pub frames_after : Nesting → Lexeme → List ℕ
frames_after n (lexeme.Word k x p) = frames_after_word n.binders n.frames
frames_after n (lexeme.Infix o p) = one_more n.frames
frames_after n (lexeme.Lambda p) = one_more n.frames
frames_after n (lexeme.OpenRound p) = 1 ∷ n.frames
frames_after n (lexeme.OpenSquare p) = 1 ∷ n.frames
frames_after n (lexeme.Closer c p) = frames_after_closer c n.frames
frames_after n (lexeme.Mark m p) = frames_after_mark m n.frames
frames_after n (lexeme.Literal l p) = n.frames
frames_after n (lexeme.Quantifier q p) = n.frames

-- the nesting behind a lexeme
abbrev pub nested : Nesting → Lexeme → Nesting
nested n c = record { frames = frames_after n c; binders = binders_after n.binders c }

-- the nesting behind lexemes
abbrev pub nested_all : Nesting → List Lexeme → Nesting
nested_all n [] = n
nested_all n (c ∷ u) = nested_all (nested n c) u

-- How deep the last of the lexemes is nested.
abbrev pub depth : List Lexeme → ℕ
depth u = sum (nested_all flat u).frames

-- Nowhere in the first i lexemes the nesting passes the limit.
abbrev pub IsShallow : List Lexeme → ℕ → Type 0
IsShallow u i = (j : ℕ) → j ≤ i → depth (take j u) ≤ 2000
