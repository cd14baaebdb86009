-- The machine that reads rules behind their word `rule`.
use Rattle.std.specs.Prelude.{List, [], ◌∷◌, ◌++◌, Option, Some, None}
use Rattle.lp_parser.specs.declared.ast.Place.{Place}
use Rattle.lp_parser.specs.declared.ast.WordKind.TheVariants.{Var}
use Rattle.lp_parser.specs.declared.ast.Operator.TheVariants.{Comma}
use Rattle.lp_parser.specs.declared.ast.Word.{Word}
use Rattle.lp_parser.specs.declared.ast.WordPair.{WordPair}
use Rattle.lp_parser.specs.declared.ast.AstTerm.{AstTerm}
use Rattle.lp_parser.specs.declared.ast.RuleHead.{RuleHead}
use Rattle.lp_parser.specs.declared.ast.Rule.{Rule}
use Rattle.lp_parser.specs.declared.lexeme.Closer.TheVariants.{Round, Bar}
use Rattle.lp_parser.specs.declared.lexeme.Mark.TheVariants as mark
use Rattle.lp_parser.specs.declared.lexeme.Lexeme.{Lexeme}
use Rattle.lp_parser.specs.declared.lexeme.Lexeme.TheVariants as lexeme
use Rattle.lp_parser.specs.declared.state.Frame.{Frame}
use Rattle.lp_parser.specs.declared.state.Frame.TheVariants as frame
use Rattle.lp_parser.specs.declared.state.Front.TheVariants as front
use Rattle.lp_parser.specs.declared.state.Latest.TheVariants as latest
use Rattle.lp_parser.specs.declared.state.State.{State}
use Rattle.lp_parser.specs.declared.state.State.TheVariants.{Want, Have}
use Rattle.lp_parser.specs.declared.item_state.Side.{Side}
use Rattle.lp_parser.specs.declared.item_state.Side.TheVariants.{Kept, Removed}
use Rattle.lp_parser.specs.declared.item_state.RulePlace.{RulePlace}
use Rattle.lp_parser.specs.declared.item_state.RulePlace.TheVariants as at
use Rattle.lp_parser.specs.declared.item_state.RuleState.{RuleState}
use Rattle.lp_parser.specs.declared.item_state.Moved.{Moved}
use Rattle.lp_parser.specs.declared.item_state.Moved.TheVariants.{To, Done}
use Rattle.lp_parser.specs.inside.TermMachine.{atom_of, joined, step, settled_at}

-- where a lexeme leads from a state of a rule
abbrev pub RuleMoved : Type 0
RuleMoved = Option (Moved RuleState Rule)

-- a rule of which nothing is read yet
abbrev pub empty_rule : Place → Rule
empty_rule p = record { kept = []; removed = []; pairs = []; tests = []; body = None; place = p }

-- to a place in the rule
abbrev pub to : Rule → RulePlace → RuleMoved
to r a = Some (To (record { rule = r; at = a }))

-- the rule with a head more
abbrev pub with_head : Rule → Side → RuleHead → Rule
with_head r Kept h = record r { kept = r.kept ++ h ∷ [] }
with_head r Removed h = record r { removed = r.removed ++ h ∷ [] }

-- the rule with a pair more
abbrev pub with_pair : Rule → WordPair → Rule
with_pair r a = record r { pairs = r.pairs ++ a ∷ [] }

-- the rule with a test more
abbrev pub with_test : Rule → AstTerm → Rule
with_test r t = record r { tests = r.tests ++ t ∷ [] }

-- the rule with its body
abbrev pub with_body : Rule → AstTerm → Rule
with_body r t = record r { body = Some t }

-- the term, where no bracket is open
abbrev pub whole : Option (AstTerm × List Frame) → Option AstTerm
whole None = None
whole (Some (t, [])) = Some t
whole (Some (t, f ∷ s)) = None

-- the test, where all its brackets are closed
abbrev pub over_test : State → Option AstTerm
over_test (Have f l (frame.Test ∷ s)) = Some (joined f (atom_of l))
over_test _ = None

-- the variable alone that is read, behind which a context may end
abbrev pub alone : State → Option Word
alone (Have front.Nothing (latest.Word Var x p) []) = Some (record { text = x; place = p })
alone _ = None

-- behind the tests, or where they may begin
abbrev pub behind_tests : Rule → Lexeme → RuleMoved
behind_tests r (lexeme.Mark mark.Equivalent p) = to r (at.Body (Want []))
behind_tests r (lexeme.Mark mark.Dot p) = Some (Done r)
behind_tests r _ = None

-- behind the pairs, or where they may begin
abbrev pub behind_pairs : Rule → Lexeme → RuleMoved
behind_pairs r (lexeme.Closer Bar p) = to r (at.Test (Want (frame.Test ∷ [])))
behind_pairs r c = behind_tests r c

-- behind the heads
abbrev pub behind_heads : Rule → Lexeme → RuleMoved
behind_heads r (lexeme.Mark mark.Greater p) = to r at.PairLeft
behind_heads r c = behind_pairs r c

-- a head on this side begins
abbrev pub head_begins : Rule → Side → RuleMoved
head_begins r d = to r (at.Head d None (Want []))

-- behind `rule`
abbrev pub rule_start : Rule → Lexeme → RuleMoved
rule_start r (lexeme.OpenRound p) = head_begins r Kept
rule_start r (lexeme.Lambda p) = to r at.Divided
rule_start r _ = None

-- behind the `\` between the heads
abbrev pub divided : Rule → Lexeme → RuleMoved
divided r (lexeme.OpenRound p) = head_begins r Removed
divided r _ = None

-- behind a kept head
abbrev pub behind_kept : Rule → Lexeme → RuleMoved
behind_kept r (lexeme.OpenRound p) = head_begins r Kept
behind_kept r (lexeme.Lambda p) = to r at.Divided
behind_kept r c = behind_heads r c

-- behind a removed head
abbrev pub behind_removed : Rule → Lexeme → RuleMoved
behind_removed r (lexeme.OpenRound p) = head_begins r Removed
behind_removed r c = behind_heads r c

-- behind a head
abbrev pub behind_head : Rule → Side → Lexeme → RuleMoved
behind_head r Kept c = behind_kept r c
behind_head r Removed c = behind_removed r c

-- the head that a `)` ends
abbrev pub head_ends : Rule → Side → Option Word → Option AstTerm → RuleMoved
head_ends r d x None = None
head_ends r d x (Some t) = to (with_head r d (record { context = x; goal = t })) (at.Heads d)

-- the context that a `?-` ends
abbrev pub context_ends : Rule → Side → Option Word → Option Word → RuleMoved
context_ends r d None (Some w) = to r (at.Head d (Some w) (Want []))
context_ends r d None None = None
context_ends r d (Some x) w = None

-- a lexeme that the term of a head doesn't go on with
abbrev pub ends_head : Rule → Side → Option Word → State → Lexeme → RuleMoved
ends_head r d x q (lexeme.Closer Round p) = head_ends r d x (whole (settled_at q))
ends_head r d x q (lexeme.Mark mark.Turnstile p) = context_ends r d x (alone q)
ends_head r d x q _ = None

-- in a head, where a lexeme leads the term to that state, or to none
abbrev pub in_head : Rule → Side → Option Word → Option State → Lexeme → State → RuleMoved
in_head r d x (Some z) c q = to r (at.Head d x z)
in_head r d x None c q = ends_head r d x q c

-- the left variable of a pair
abbrev pub pair_left : Rule → Lexeme → RuleMoved
pair_left r (lexeme.Word Var x p) = to r (at.Tilde (record { text = x; place = p }))
pair_left r _ = None

-- the `~` of a pair
abbrev pub pair_tilde : Rule → Word → Lexeme → RuleMoved
pair_tilde r w (lexeme.Mark mark.Tilde p) = to r (at.PairRight w)
pair_tilde r w _ = None

-- the right variable of a pair
abbrev pub pair_right : Rule → Word → Lexeme → RuleMoved
pair_right r w (lexeme.Word Var x p) = to (with_pair r (record { left = w; right = record { text = x; place = p } })) at.Paired
pair_right r w _ = None

-- behind a pair
abbrev pub paired : Rule → Lexeme → RuleMoved
paired r (lexeme.Infix Comma p) = to r at.PairLeft
paired r c = behind_pairs r c

-- behind a test
abbrev pub tested : Rule → Lexeme → RuleMoved
tested r (lexeme.Infix Comma p) = to r (at.Test (Want (frame.Test ∷ [])))
tested r c = behind_tests r c

-- a lexeme that a test doesn't go on with
abbrev pub ends_test : Rule → Option AstTerm → Lexeme → RuleMoved
ends_test r None c = None
ends_test r (Some t) c = tested (with_test r t) c

-- in a test, where a lexeme leads it to that state, or to none
abbrev pub in_test : Rule → Option State → Lexeme → State → RuleMoved
in_test r (Some z) c q = to r (at.Test z)
in_test r None c q = ends_test r (over_test q) c

-- a lexeme that the body doesn't go on with
abbrev pub ends_body : Rule → Option AstTerm → Lexeme → RuleMoved
ends_body r (Some t) (lexeme.Mark mark.Dot p) = Some (Done (with_body r t))
ends_body r _ _ = None

-- in the body, where a lexeme leads the term to that state, or to none
abbrev pub in_body : Rule → Option State → Lexeme → State → RuleMoved
in_body r (Some z) c q = to r (at.Body z)
in_body r None c q = ends_body r (whole (settled_at q)) c

-- where a lexeme leads from a place
abbrev pub rule_move_at : Rule → RulePlace → Lexeme → RuleMoved
rule_move_at r at.Start c = rule_start r c
rule_move_at r at.Divided c = divided r c
rule_move_at r (at.Heads d) c = behind_head r d c
rule_move_at r (at.Head d x q) c = in_head r d x (step q c) c q
rule_move_at r at.PairLeft c = pair_left r c
rule_move_at r (at.Tilde w) c = pair_tilde r w c
rule_move_at r (at.PairRight w) c = pair_right r w c
rule_move_at r at.Paired c = paired r c
rule_move_at r (at.Test q) c = in_test r (step q c) c q
rule_move_at r (at.Body q) c = in_body r (step q c) c q

-- where a lexeme leads
abbrev pub rule_move : RuleState → Lexeme → RuleMoved
rule_move z c = rule_move_at z.rule z.at c
