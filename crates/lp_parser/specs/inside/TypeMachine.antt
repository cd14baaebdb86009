-- The machine that reads types from the left, with the phrases that are not over on a stack, the innermost first.
use Rattle.std.specs.Prelude.{ℕ, List, [], ◌∷◌, ◌++◌, Option, Some, None}
use Rattle.lp_parser.specs.declared.ast.Place.{Place}
use Rattle.lp_parser.specs.declared.ast.WordKind.{WordKind}
use Rattle.lp_parser.specs.declared.ast.WordKind.TheVariants.{Name, Var, Hole}
use Rattle.lp_parser.specs.declared.ast.Word.{Word}
use Rattle.lp_parser.specs.declared.ast.AstType.{AstType}
use Rattle.lp_parser.specs.declared.ast.AstType.TheVariants as type
use Rattle.lp_parser.specs.declared.lexeme.Closer.{Closer}
use Rattle.lp_parser.specs.declared.lexeme.Closer.TheVariants.{Round}
use Rattle.lp_parser.specs.declared.lexeme.Mark.{Mark}
use Rattle.lp_parser.specs.declared.lexeme.Mark.TheVariants as mark
use Rattle.lp_parser.specs.declared.lexeme.Lexeme.{Lexeme}
use Rattle.lp_parser.specs.declared.lexeme.Lexeme.TheVariants as lexeme
use Rattle.lp_parser.specs.declared.item_state.TypeFrame.{TypeFrame}
use Rattle.lp_parser.specs.declared.item_state.TypeFrame.TheVariants as frame
use Rattle.lp_parser.specs.declared.item_state.TypeFront.{TypeFront}
use Rattle.lp_parser.specs.declared.item_state.TypeFront.TheVariants.{Named, Whole}
use Rattle.lp_parser.specs.declared.item_state.TypeState.{TypeState}
use Rattle.lp_parser.specs.declared.item_state.TypeState.TheVariants.{Want, Have}

-- the word, where it is a name or a variable
abbrev pub type_word : WordKind → List ℕ → Place → Option Word
type_word Name x p = Some (record { text = x; place = p })
type_word Var x p = Some (record { text = x; place = p })
type_word Hole x p = None

-- the application as a type
abbrev pub type_of : TypeFront → AstType
type_of (Named w ts) = type.Named w ts
type_of (Whole t) = t

-- ends all arrows up to a bracket
abbrev pub type_settle : AstType → List TypeFrame → AstType × List TypeFrame
type_settle t (frame.Arrow a ∷ s) = type_settle (type.Arrow a t) s
type_settle t (frame.Group ∷ s) = (t, frame.Group ∷ s)
type_settle t (frame.Argument w ts ∷ s) = (t, frame.Argument w ts ∷ s)
type_settle t [] = (t, [])

-- the type that is read where all arrows up to a bracket end
abbrev pub type_settled : TypeState → Option (AstType × List TypeFrame)
type_settled (Want s) = None
type_settled (Have f s) = Some (type_settle (type_of f) s)

-- the state behind a type in brackets
abbrev pub type_close : AstType → List TypeFrame → Option TypeState
type_close t (frame.Group ∷ s) = Some (Have (Whole t) s)
type_close t (frame.Argument w ts ∷ s) = Some (Have (Named w (ts ++ t ∷ [])) s)
type_close t (frame.Arrow a ∷ s) = None
type_close t [] = None

-- the same behind what `type_settle` gives
abbrev pub type_closed : AstType × List TypeFrame → Option TypeState
type_closed p = type_close p.0 p.1

-- the state behind a `)`
abbrev pub type_closing : TypeState → Option TypeState
type_closing (Want s) = None
type_closing (Have f s) = type_closed (type_settle (type_of f) s)

-- the state behind a word that may stand in a type
abbrev pub with_type_word : TypeState → Word → Option TypeState
with_type_word (Want s) w = Some (Have (Named w []) s)
with_type_word (Have (Named h ts) s) w = Some (Have (Named h (ts ++ type.Named w [] ∷ [])) s)
with_type_word (Have (Whole t) s) w = None

-- the state behind a word
abbrev pub type_worded : TypeState → Option Word → Option TypeState
type_worded q None = None
type_worded q (Some w) = with_type_word q w

-- the state behind a `(`
abbrev pub type_opened : TypeState → Option TypeState
type_opened (Want s) = Some (Want (frame.Group ∷ s))
type_opened (Have (Named w ts) s) = Some (Want (frame.Argument w ts ∷ s))
type_opened (Have (Whole t) s) = None

-- the state behind a `->`
abbrev pub type_arrow : TypeState → Option TypeState
type_arrow (Want s) = None
type_arrow (Have f s) = Some (Want (frame.Arrow (type_of f) ∷ s))

-- the state behind a closing bracket
abbrev pub type_closer : TypeState → Closer → Option TypeState
type_closer q Round = type_closing q
type_closer q _ = None

-- the state behind a mark
abbrev pub type_marked : TypeState → Mark → Option TypeState
type_marked q mark.Arrow = type_arrow q
type_marked q _ = None

-- the state behind one more lexeme, where a type goes on so
abbrev pub type_step : TypeState → Lexeme → Option TypeState
type_step q (lexeme.Word k x p) = type_worded q (type_word k x p)
type_step q (lexeme.OpenRound p) = type_opened q
type_step q (lexeme.Closer c p) = type_closer q c
type_step q (lexeme.Mark m p) = type_marked q m
type_step q _ = None

-- the type, where no bracket is open
abbrev pub type_whole : Option (AstType × List TypeFrame) → Option AstType
type_whole None = None
type_whole (Some (t, [])) = Some t
type_whole (Some (t, f ∷ s)) = None
