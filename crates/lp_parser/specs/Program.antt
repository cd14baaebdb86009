-- The grammar of items, programs and queries.
use Rattle.std.specs.Prelude.{List, [], ◌∷◌}
use Rattle.lp_parser.specs.declared.ast.Place.{Place}
use Rattle.lp_parser.specs.declared.ast.AstTerm.{AstTerm}
use Rattle.lp_parser.specs.declared.ast.Decl.{Decl}
use Rattle.lp_parser.specs.declared.ast.Block.{Block}
use Rattle.lp_parser.specs.declared.ast.Item.{Item}
use Rattle.lp_parser.specs.declared.ast.Item.TheVariants as item
use Rattle.lp_parser.specs.declared.lexeme.Mark.TheVariants.{Dot}
use Rattle.lp_parser.specs.declared.lexeme.Lexeme.{Lexeme}
use Rattle.lp_parser.specs.declared.lexeme.Lexeme.TheVariants as lexeme
use Rattle.lp_parser.specs.Grammar.{Shape, Phrase}
use Rattle.lp_parser.specs.Declarations.{DeclOf}
use Rattle.lp_parser.specs.Rules.{BlockOf}

-- where a lexeme stands
abbrev pub place_of : Lexeme → Place
place_of (lexeme.Word k x p) = p
place_of (lexeme.Literal l p) = p
place_of (lexeme.Quantifier q p) = p
place_of (lexeme.Infix o p) = p
place_of (lexeme.Lambda p) = p
place_of (lexeme.OpenRound p) = p
place_of (lexeme.OpenSquare p) = p
place_of (lexeme.Closer c p) = p
place_of (lexeme.Mark m p) = p

-- Item := Kind | Type | Pred | Block | Clause
-- Clause := T1 '.', at the place of its first token
pub data ItemOf : List Lexeme → List Lexeme → Item → Type 0 where
  declaration : {u v : List Lexeme} {d : Decl} → DeclOf u v d → ItemOf u v (item.Decl d)
  rule_block : {u v : List Lexeme} {b : Block} → BlockOf u v b → ItemOf u v (item.Block b)
  clause : {s : Shape} {c : Lexeme} {u v : List Lexeme} {t : AstTerm} (q : Place)
      → Phrase 1 s (c ∷ u) (lexeme.Mark Dot q ∷ v) t → ItemOf (c ∷ u) v (item.Clause (record { term = t; place = place_of c }))

-- Program := Item*
pub data Program : List Lexeme → List Item → Type 0 where
  no_item : Program [] []
  item_and : {u v : List Lexeme} {i : Item} {is : List Item} → ItemOf u v i → Program v is → Program u (i ∷ is)

-- Query := T1 [ '.' ]
pub data Query : List Lexeme → AstTerm → Type 0 where
  without_dot : {s : Shape} {u : List Lexeme} {t : AstTerm} → Phrase 1 s u [] t → Query u t
  with_dot : {s : Shape} {u : List Lexeme} {t : AstTerm} (q : Place) → Phrase 1 s u (lexeme.Mark Dot q ∷ []) t → Query u t
