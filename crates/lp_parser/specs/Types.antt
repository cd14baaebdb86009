-- The grammar of types. Each relation goes from one list of lexemes to what is left of it behind the phrase.
use Rattle.std.specs.Prelude.{ℕ, List, [], ◌∷◌}
use Rattle.lp_parser.specs.declared.ast.Place.{Place}
use Rattle.lp_parser.specs.declared.ast.WordKind.TheVariants.{Name, Var}
use Rattle.lp_parser.specs.declared.ast.Word.{Word}
use Rattle.lp_parser.specs.declared.ast.AstType.{AstType}
use Rattle.lp_parser.specs.declared.ast.AstType.TheVariants as type
use Rattle.lp_parser.specs.declared.lexeme.Closer.TheVariants.{Round}
use Rattle.lp_parser.specs.declared.lexeme.Mark.TheVariants.{Arrow}
use Rattle.lp_parser.specs.declared.lexeme.Lexeme.{Lexeme}
use Rattle.lp_parser.specs.declared.lexeme.Lexeme.TheVariants as lexeme

-- Word := Name | Var
pub data TypeWord : List Lexeme → List Lexeme → Word → Type 0 where
  type_name : {v : List Lexeme} (x : List ℕ) (p : Place) → TypeWord (lexeme.Word Name x p ∷ v) v (record { text = x; place = p })
  type_variable : {v : List Lexeme} (x : List ℕ) (p : Place) → TypeWord (lexeme.Word Var x p ∷ v) v (record { text = x; place = p })

mutual
  -- TExp := TApp | TApp '->' TExp
  pub data TypeExp : List Lexeme → List Lexeme → AstType → Type 0 where
    no_arrow : {u v : List Lexeme} {t : AstType} → TypeApp u v t → TypeExp u v t
    arrow : {u v w : List Lexeme} {a b : AstType} (p : Place) → TypeApp u (lexeme.Mark Arrow p ∷ v) a → TypeExp v w b → TypeExp u w (type.Arrow a b)

  -- TApp := Word TAtom* | '(' TExp ')'
  pub data TypeApp : List Lexeme → List Lexeme → AstType → Type 0 where
    named : {u v w : List Lexeme} {x : Word} {ts : List AstType} → TypeWord u v x → TypeAtoms v w ts → TypeApp u w (type.Named x ts)
    app_in_brackets : {u v : List Lexeme} {t : AstType} (p q : Place) → TypeExp u (lexeme.Closer Round q ∷ v) t → TypeApp (lexeme.OpenRound p ∷ u) v t

  -- TAtom := Word | '(' TExp ')'
  pub data TypeAtom : List Lexeme → List Lexeme → AstType → Type 0 where
    word_alone : {u v : List Lexeme} {x : Word} → TypeWord u v x → TypeAtom u v (type.Named x [])
    atom_in_brackets : {u v : List Lexeme} {t : AstType} (p q : Place) → TypeExp u (lexeme.Closer Round q ∷ v) t → TypeAtom (lexeme.OpenRound p ∷ u) v t

  -- TAtom*
  pub data TypeAtoms : List Lexeme → List Lexeme → List AstType → Type 0 where
    no_type_atom : {u : List Lexeme} → TypeAtoms u u []
    type_atom_and : {u v w : List Lexeme} {t : AstType} {ts : List AstType} → TypeAtom u v t → TypeAtoms v w ts → TypeAtoms u w (t ∷ ts)
