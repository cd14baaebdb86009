-- The grammar of constraint rules.
use Rattle.std.specs.Prelude.{ℕ, List, [], ◌∷◌, Option, Some, None}
use Rattle.lp_parser.specs.declared.ast.Place.{Place}
use Rattle.lp_parser.specs.declared.ast.WordKind.TheVariants.{Name, Var}
use Rattle.lp_parser.specs.declared.ast.Operator.TheVariants.{Comma}
use Rattle.lp_parser.specs.declared.ast.Word.{Word}
use Rattle.lp_parser.specs.declared.ast.WordPair.{WordPair}
use Rattle.lp_parser.specs.declared.ast.AstTerm.{AstTerm}
use Rattle.lp_parser.specs.declared.ast.RuleHead.{RuleHead}
use Rattle.lp_parser.specs.declared.ast.Rule.{Rule}
use Rattle.lp_parser.specs.declared.ast.Block.{Block}
use Rattle.lp_parser.specs.declared.lexeme.Closer.TheVariants.{Round, Bar}
use Rattle.lp_parser.specs.declared.lexeme.Mark.TheVariants.{Dot, OpenCurly, CloseCurly, Turnstile, Equivalent, Greater, Tilde, ConstraintWord, RuleWord}
use Rattle.lp_parser.specs.declared.lexeme.Lexeme.{Lexeme}
use Rattle.lp_parser.specs.declared.lexeme.Lexeme.TheVariants as lexeme
use Rattle.lp_parser.specs.Grammar.{Shape, Closed, Phrase}

-- Head := '(' T1 ')' | '(' Var '?-' T1 ')'
pub data Head : List Lexeme → List Lexeme → RuleHead → Type 0 where
  goal_alone : {s : Shape} {u v : List Lexeme} {t : AstTerm} (p q : Place)
      → Phrase 1 s u (lexeme.Closer Round q ∷ v) t → Head (lexeme.OpenRound p ∷ u) v (record { context = None; goal = t })
  goal_in_context : {s : Shape} {u v : List Lexeme} {t : AstTerm} (x : List ℕ) (p d e q : Place)
      → Phrase 1 s u (lexeme.Closer Round q ∷ v) t
      → Head (lexeme.OpenRound p ∷ lexeme.Word Var x d ∷ lexeme.Mark Turnstile e ∷ u) v (record { context = Some (record { text = x; place = d }); goal = t })

-- Head+
pub data HeadList : List Lexeme → List Lexeme → List RuleHead → Type 0 where
  last_head : {u v : List Lexeme} {h : RuleHead} → Head u v h → HeadList u v (h ∷ [])
  head_and : {u v w : List Lexeme} {h : RuleHead} {hs : List RuleHead} → Head u v h → HeadList v w hs → HeadList u w (h ∷ hs)

-- Heads := Head+ | Head+ '\' Head+ | '\' Head+: the kept ones, and the removed ones
pub data Heads : List Lexeme → List Lexeme → List RuleHead → List RuleHead → Type 0 where
  all_kept : {u v : List Lexeme} {hs : List RuleHead} → HeadList u v hs → Heads u v hs []
  some_removed : {u v w : List Lexeme} {hs gs : List RuleHead} (p : Place) → HeadList u (lexeme.Lambda p ∷ v) hs → HeadList v w gs → Heads u w hs gs
  all_removed : {u v : List Lexeme} {gs : List RuleHead} (p : Place) → HeadList u v gs → Heads (lexeme.Lambda p ∷ u) v [] gs

-- Pair := Var '~' Var
pub data Pair : List Lexeme → List Lexeme → WordPair → Type 0 where
  pair : {v : List Lexeme} (x y : List ℕ) (p q r : Place)
      → Pair (lexeme.Word Var x p ∷ lexeme.Mark Tilde q ∷ lexeme.Word Var y r ∷ v) v
      (record { left = record { text = x; place = p }; right = record { text = y; place = r } })

-- Pair (',' Pair)*
pub data PairList : List Lexeme → List Lexeme → List WordPair → Type 0 where
  last_pair : {u v : List Lexeme} {a : WordPair} → Pair u v a → PairList u v (a ∷ [])
  pair_and : {u v w : List Lexeme} {a : WordPair} {bs : List WordPair} (p : Place)
      → Pair u (lexeme.Infix Comma p ∷ v) a → PairList v w bs → PairList u w (a ∷ bs)

-- [ '>' Pair (',' Pair)* ]
pub data Pairs : List Lexeme → List Lexeme → List WordPair → Type 0 where
  no_pairs : {u : List Lexeme} → Pairs u u []
  pairs : {u v : List Lexeme} {bs : List WordPair} (p : Place) → PairList u v bs → Pairs (lexeme.Mark Greater p ∷ u) v bs

-- Test (',' Test)*, where a test is a closed T9
pub data TestList : List Lexeme → List Lexeme → List AstTerm → Type 0 where
  last_test : {u v : List Lexeme} {t : AstTerm} → Phrase 9 Closed u v t → TestList u v (t ∷ [])
  test_and : {u v w : List Lexeme} {t : AstTerm} {ts : List AstTerm} (p : Place)
      → Phrase 9 Closed u (lexeme.Infix Comma p ∷ v) t → TestList v w ts → TestList u w (t ∷ ts)

-- [ Bar Test (',' Test)* ]
pub data Tests : List Lexeme → List Lexeme → List AstTerm → Type 0 where
  no_tests : {u : List Lexeme} → Tests u u []
  tests : {u v : List Lexeme} {ts : List AstTerm} (p : Place) → TestList u v ts → Tests (lexeme.Closer Bar p ∷ u) v ts

-- [ '<=>' T1 ]
pub data Body : List Lexeme → List Lexeme → Option AstTerm → Type 0 where
  no_body : {u : List Lexeme} → Body u u None
  body : {s : Shape} {u v : List Lexeme} {t : AstTerm} (p : Place) → Phrase 1 s u v t → Body (lexeme.Mark Equivalent p ∷ u) v (Some t)

-- Rule := 'rule' Heads [ '>' Pair (',' Pair)* ] [ Bar Test (',' Test)* ] [ '<=>' T1 ] '.'
pub data RuleOf : List Lexeme → List Lexeme → Rule → Type 0 where
  rule : {u v w x y : List Lexeme} {hs gs : List RuleHead} {bs : List WordPair} {ts : List AstTerm} {b : Option AstTerm} (p q : Place)
      → Heads u v hs gs → Pairs v w bs → Tests w x ts → Body x (lexeme.Mark Dot q ∷ y) b
      → RuleOf (lexeme.Mark RuleWord p ∷ u) y (record { kept = hs; removed = gs; pairs = bs; tests = ts; body = b; place = p })

-- Rule*
pub data RulesOf : List Lexeme → List Lexeme → List Rule → Type 0 where
  no_rule : {u : List Lexeme} → RulesOf u u []
  rule_and : {u v w : List Lexeme} {r : Rule} {rs : List Rule} → RuleOf u v r → RulesOf v w rs → RulesOf u w (r ∷ rs)

-- Name*
pub data BlockNames : List Lexeme → List Lexeme → List Word → Type 0 where
  no_block_name : {u : List Lexeme} → BlockNames u u []
  block_name_and : {u v : List Lexeme} {ws : List Word} (x : List ℕ) (p : Place)
      → BlockNames u v ws → BlockNames (lexeme.Word Name x p ∷ u) v (record { text = x; place = p } ∷ ws)

-- Block := 'constraint' Name* '{' Rule* '}'
pub data BlockOf : List Lexeme → List Lexeme → Block → Type 0 where
  block : {u v w : List Lexeme} {ws : List Word} {rs : List Rule} (p q r : Place)
      → BlockNames u (lexeme.Mark OpenCurly q ∷ v) ws → RulesOf v (lexeme.Mark CloseCurly r ∷ w) rs
      → BlockOf (lexeme.Mark ConstraintWord p ∷ u) w (record { names = ws; rules = rs })
