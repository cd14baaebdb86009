-- The machine that reads terms from the left, with the phrases that are not over on a stack, the innermost first.
use Rattle.std.specs.Prelude.{ℕ, List, [], ◌∷◌, ◌++◌, Option, Some, None, option_map, Bool, true, false, if◌then◌else◌, nat_le}
use Rattle.lp_parser.specs.declared.ast.Place.{Place}
use Rattle.lp_parser.specs.declared.ast.WordKind.{WordKind}
use Rattle.lp_parser.specs.declared.ast.Word.{Word}
use Rattle.lp_parser.specs.declared.ast.Operator.{Operator}
use Rattle.lp_parser.specs.declared.ast.Operator.TheVariants.{Implied, Or, Comma, Implies, Equal, Is, Cons, Plus, Minus, Times}
use Rattle.lp_parser.specs.declared.ast.AstTerm.{AstTerm}
use Rattle.lp_parser.specs.declared.ast.AstTerm.TheVariants as term
use Rattle.lp_parser.specs.declared.lexeme.Closer.{Closer}
use Rattle.lp_parser.specs.declared.lexeme.Closer.TheVariants.{Round, Square, Bar}
use Rattle.lp_parser.specs.declared.lexeme.Lexeme.{Lexeme}
use Rattle.lp_parser.specs.declared.lexeme.Lexeme.TheVariants as lexeme
use Rattle.lp_parser.specs.declared.state.Front.{Front}
use Rattle.lp_parser.specs.declared.state.Front.TheVariants as front
use Rattle.lp_parser.specs.declared.state.Latest.{Latest}
use Rattle.lp_parser.specs.declared.state.Latest.TheVariants as latest
use Rattle.lp_parser.specs.declared.state.Frame.{Frame}
use Rattle.lp_parser.specs.declared.state.Frame.TheVariants as frame
use Rattle.lp_parser.specs.declared.state.State.{State}
use Rattle.lp_parser.specs.declared.state.State.TheVariants.{Want, Quantifier, Have, Words}
use Rattle.lp_parser.specs.Grammar.{level, left_level, right_level, literal_term, quantified}

-- the atom as a term
abbrev pub atom_of : Latest → AstTerm
atom_of (latest.Word k x p) = term.Word k x p
atom_of (latest.Group t) = t
atom_of (latest.Plain t) = t

-- the phrase that the atom ends
abbrev pub joined : Front → AstTerm → AstTerm
joined front.Nothing t = t
joined (front.Applied h ts) t = term.App h (ts ++ t ∷ [])
joined (front.Quantifier q p) t = term.Quant q p t

-- the front of a further atom
abbrev pub front_after : Front → Latest → Option Front
front_after (front.Applied h ts) l = Some (front.Applied h (ts ++ atom_of l ∷ []))
front_after front.Nothing (latest.Word k x p) = Some (front.Applied (term.Word k x p) [])
front_after front.Nothing (latest.Group t) = Some (front.Applied t [])
front_after front.Nothing (latest.Plain t) = None
front_after (front.Quantifier q p) l = None

-- a comma between the elements of a list
abbrev pub separated : Operator → AstTerm → Front → Place → List AstTerm → List Frame → Option (List Frame)
separated Comma t f p ts s = Some (frame.List f p (ts ++ t ∷ []) ∷ s)
separated Implied t f p ts s = None
separated Or t f p ts s = None
separated Implies t f p ts s = None
separated Equal t f p ts s = None
separated Is t f p ts s = None
separated Cons t f p ts s = None
separated Plus t f p ts s = None
separated Minus t f p ts s = None
separated Times t f p ts s = None

-- the operator with its left side, where that has its level
abbrev pub onto : Operator → Place → ℕ → AstTerm → List Frame → Option (List Frame)
onto o p k t s = if nat_le (left_level o) k then Some (frame.Left o p t ∷ s) else None

-- The operator takes what is read of its left side, a phrase of that level, and the frames that bind tighter.
abbrev pub attach : Operator → Place → ℕ → AstTerm → List Frame → Option (List Frame)
attach o p k t (frame.Left q r a ∷ s) =
    if nat_le (right_level q) (level o) then onto o p k t (frame.Left q r a ∷ s) else attach o p (level q) (term.Op q r a t) s
attach o p k t (frame.List f r ts ∷ s) = if nat_le 4 (level o) then onto o p k t (frame.List f r ts ∷ s) else separated o t f r ts s
attach o p k t (frame.Tail f r ts ∷ s) = if nat_le 4 (level o) then onto o p k t (frame.Tail f r ts ∷ s) else None
attach o p k t (frame.Group f ∷ s) = onto o p k t (frame.Group f ∷ s)
attach o p k t (frame.Body f x ∷ s) = onto o p k t (frame.Body f x ∷ s)
attach o p k t (frame.Quantified q r xs ∷ s) = onto o p k t (frame.Quantified q r xs ∷ s)
attach o p k t (frame.Test ∷ s) = None
attach o p k t [] = onto o p k t []

-- ends all phrases up to a bracket
abbrev pub settle : AstTerm → List Frame → AstTerm × List Frame
settle t (frame.Left q r a ∷ s) = settle (term.Op q r a t) s
settle t (frame.Body f x ∷ s) = settle (joined f (term.Bind x.text x.place t)) s
settle t (frame.Quantified q r xs ∷ s) = settle (quantified q r xs t) s
settle t (frame.Group f ∷ s) = (t, frame.Group f ∷ s)
settle t (frame.List f r ts ∷ s) = (t, frame.List f r ts ∷ s)
settle t (frame.Tail f r ts ∷ s) = (t, frame.Tail f r ts ∷ s)
settle t (frame.Test ∷ s) = (t, frame.Test ∷ s)
settle t [] = (t, [])

-- the state behind a phrase and what ends it
abbrev pub close : Closer → AstTerm → List Frame → Option State
close Round t (frame.Group f ∷ s) = Some (Have f (latest.Group t) s)
close Square t (frame.List f r ts ∷ s) = Some (Have f (latest.Plain (term.List r (ts ++ t ∷ []) None)) s)
close Square t (frame.Tail f r ts ∷ s) = Some (Have f (latest.Plain (term.List r ts (Some t))) s)
close Bar t (frame.List f r ts ∷ s) = Some (Want (frame.Tail f r (ts ++ t ∷ []) ∷ s))
close _ _ _ = None

-- the same behind what `settle` gives
abbrev pub closed : Closer → AstTerm × List Frame → Option State
closed c p = close c p.0 p.1

-- `[` and at once `]`
abbrev pub at_once : List Frame → Option State
at_once (frame.List f r [] ∷ s) = Some (Have f (latest.Plain (term.List r [] None)) s)
at_once _ = None

-- a closing bracket where an operand is awaited
abbrev pub close_empty : Closer → List Frame → Option State
close_empty Square s = at_once s
close_empty Round s = None
close_empty Bar s = None

-- an operand is awaited on this stack
abbrev pub want : Option (List Frame) → Option State
want None = None
want (Some s) = Some (Want s)

-- a further atom
abbrev pub atom : Option Front → Latest → List Frame → Option State
atom None l s = None
atom (Some f) l s = Some (Have f l s)

-- a round bracket
abbrev pub opened : Option Front → List Frame → Option State
opened None s = None
opened (Some f) s = Some (Want (frame.Group f ∷ s))

-- a square bracket
abbrev pub opened_list : Option Front → Place → List Frame → Option State
opened_list None p s = None
opened_list (Some f) p s = Some (Want (frame.List f p [] ∷ s))

-- the front of a further atom, where one may stand
abbrev pub front_at : State → Option Front
front_at (Want s) = Some front.Nothing
front_at (Quantifier q p s) = Some (front.Quantifier q p)
front_at (Have f l s) = front_after f l
front_at (Words q p xs x s) = None

-- the phrases that are not over
abbrev pub stack_at : State → List Frame
stack_at (Want s) = s
stack_at (Quantifier q p s) = s
stack_at (Have f l s) = s
stack_at (Words q p xs x s) = s

-- whether a phrase on this stack may end in a body that goes on to its end
abbrev pub may_be_open : List Frame → Bool
may_be_open (frame.Test ∷ s) = false
may_be_open (frame.Left q r a ∷ s) = true
may_be_open (frame.Body f x ∷ s) = true
may_be_open (frame.Quantified q r xs ∷ s) = true
may_be_open (frame.Group f ∷ s) = true
may_be_open (frame.List f r ts ∷ s) = true
may_be_open (frame.Tail f r ts ∷ s) = true
may_be_open [] = true

-- the second word of a quantifier
abbrev pub second_bound : Bool → Place → Word → Word → List Frame → Option State
second_bound q p y x s = if may_be_open s then Some (Words q p (y ∷ []) x s) else None

-- a word behind an atom
abbrev pub second_word : Front → Latest → List Frame → WordKind → Word → Option State
second_word (front.Quantifier q p) (latest.Word j y r) s k x = second_bound q p (record { text = y; place = r }) x s
second_word (front.Quantifier q p) (latest.Group t) s k x = None
second_word (front.Quantifier q p) (latest.Plain t) s k x = None
second_word front.Nothing l s k x = atom (front_after front.Nothing l) (latest.Word k x.text x.place) s
second_word (front.Applied h ts) l s k x = atom (front_after (front.Applied h ts) l) (latest.Word k x.text x.place) s

-- a word
abbrev pub worded : State → WordKind → Word → Option State
worded (Want s) k x = Some (Have front.Nothing (latest.Word k x.text x.place) s)
worded (Quantifier q p s) k x = Some (Have (front.Quantifier q p) (latest.Word k x.text x.place) s)
worded (Have f l s) k x = second_word f l s k x
worded (Words q p xs y s) k x = Some (Words q p (xs ++ y ∷ []) x s)

-- the frame of the body of a word behind that front
abbrev pub body_frame : Front → Word → Frame
body_frame (front.Quantifier q p) x = frame.Quantified q p (x ∷ [])
body_frame front.Nothing x = frame.Body front.Nothing x
body_frame (front.Applied h ts) x = frame.Body (front.Applied h ts) x

-- the `\` of a binder behind an atom
abbrev pub body : Front → Latest → List Frame → Option State
body f (latest.Word k x p) s = if may_be_open s then Some (Want (body_frame f (record { text = x; place = p }) ∷ s)) else None
body f (latest.Group t) s = None
body f (latest.Plain t) s = None

-- the `\` of a binder
abbrev pub bound : State → Option State
bound (Want s) = None
bound (Quantifier q p s) = None
bound (Have f l s) = body f l s
bound (Words q p xs x s) = Some (Want (frame.Quantified q p (xs ++ x ∷ []) ∷ s))

-- a quantifier
abbrev pub quantifier : State → Bool → Place → Option State
quantifier (Want s) q p = Some (Quantifier q p s)
quantifier (Quantifier b r s) q p = None
quantifier (Have f l s) q p = None
quantifier (Words b r xs x s) q p = None

-- the phrase that is read where all phrases up to a bracket end
abbrev pub settled_at : State → Option (AstTerm × List Frame)
settled_at (Want s) = None
settled_at (Quantifier q p s) = None
settled_at (Have f l s) = Some (settle (joined f (atom_of l)) s)
settled_at (Words q p xs x s) = None

-- what ends the phrases up to a bracket
abbrev pub closed_at : Closer → Option (AstTerm × List Frame) → Option State
closed_at c None = None
closed_at c (Some p) = closed c p

-- a closing bracket, or a bar
abbrev pub closing : State → Closer → Option State
closing (Want s) c = close_empty c s
closing (Quantifier q p s) c = None
closing (Have f l s) c = closed_at c (settled_at (Have f l s))
closing (Words q p xs x s) c = None

-- an operator
abbrev pub infixed : State → Operator → Place → Option State
infixed (Want s) o p = None
infixed (Quantifier q r s) o p = None
infixed (Have f l s) o p = want (attach o p 9 (joined f (atom_of l)) s)
infixed (Words q r xs x s) o p = None

-- the state behind one more lexeme, where a term goes on so
abbrev pub step : State → Lexeme → Option State
step q (lexeme.Word k x p) = worded q k (record { text = x; place = p })
step q (lexeme.Literal n p) = atom (front_at q) (latest.Plain (literal_term n p)) (stack_at q)
step q (lexeme.Quantifier b p) = quantifier q b p
step q (lexeme.OpenRound p) = opened (front_at q) (stack_at q)
step q (lexeme.OpenSquare p) = opened_list (front_at q) p (stack_at q)
step q (lexeme.Lambda p) = bound q
step q (lexeme.Infix o p) = infixed q o p
step q (lexeme.Closer c p) = closing q c
step q (lexeme.Mark m p) = None

-- the front of an atom that begins here, with the frames around it
abbrev pub atom_place : State → Option (Front × List Frame)
atom_place (Want s) = Some (front.Nothing, s)
atom_place (Quantifier q p s) = Some (front.Quantifier q p, s)
atom_place (Have f l s) = option_map (λ g. (g, s)) (front_after f l)
atom_place (Words q p xs x s) = None

-- whether the state is directly in a test
abbrev pub at_test : State → Bool
at_test q = if may_be_open (stack_at q) then false else true
