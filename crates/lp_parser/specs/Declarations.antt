-- The grammar of declarations.
use Rattle.std.specs.Prelude.{◌≡◌, ℕ, suc, List, [], ◌∷◌, Bool, true, false, Option, Some, None, codes, bytes_eq, if◌then◌else◌}
use Rattle.lp_parser.specs.declared.ast.Place.{Place}
use Rattle.lp_parser.specs.declared.ast.WordKind.TheVariants.{Name}
use Rattle.lp_parser.specs.declared.ast.Operator.TheVariants.{Comma}
use Rattle.lp_parser.specs.declared.ast.Word.{Word}
use Rattle.lp_parser.specs.declared.ast.AstType.{AstType}
use Rattle.lp_parser.specs.declared.ast.AstArg.{AstArg}
use Rattle.lp_parser.specs.declared.ast.Decl.{Decl}
use Rattle.lp_parser.specs.declared.ast.Decl.TheVariants.{KindDecl, TypeDecl, PredDecl}
use Rattle.lp_parser.specs.declared.lexeme.Mark.TheVariants.{Dot, Arrow, Colon, KindWord, TypeWord, PredWord}
use Rattle.lp_parser.specs.declared.lexeme.Lexeme.{Lexeme}
use Rattle.lp_parser.specs.declared.lexeme.Lexeme.TheVariants as lexeme
use Rattle.lp_parser.specs.Types.{TypeExp}

-- Name (',' Name)*
pub data Names : List Lexeme → List Lexeme → List Word → Type 0 where
  last_name : {v : List Lexeme} (x : List ℕ) (p : Place) → Names (lexeme.Word Name x p ∷ v) v (record { text = x; place = p } ∷ [])
  name_and : {u v : List Lexeme} {ws : List Word} (x : List ℕ) (p q : Place)
      → Names u v ws → Names (lexeme.Word Name x p ∷ lexeme.Infix Comma q ∷ u) v (record { text = x; place = p } ∷ ws)

-- KExp := 'type' | 'type' '->' KExp, with the number of its arrows
pub data KindExp : List Lexeme → List Lexeme → ℕ → Type 0 where
  only_type : {v : List Lexeme} (p : Place) → KindExp (lexeme.Mark TypeWord p ∷ v) v 0
  type_to : {u v : List Lexeme} {n : ℕ} (p q : Place) → KindExp u v n → KindExp (lexeme.Mark TypeWord p ∷ lexeme.Mark Arrow q ∷ u) v (suc n)

-- Mode: the name i is for inputs, and the name o for outputs.
abbrev pub mode_of : List ℕ → Option Bool
mode_of x = if bytes_eq x (codes "i") then Some true else (if bytes_eq x (codes "o") then Some false else None)

-- Arg := Mode ':' TExp
pub data Arg : List Lexeme → List Lexeme → AstArg → Type 0 where
  argument : {u v : List Lexeme} {t : AstType} {b : Bool} (x : List ℕ) (p q : Place)
      → mode_of x ≡ Some b → TypeExp u v t → Arg (lexeme.Word Name x p ∷ lexeme.Mark Colon q ∷ u) v (record { input = b; ty = t })

-- Arg (',' Arg)*
pub data Args : List Lexeme → List Lexeme → List AstArg → Type 0 where
  last_arg : {u v : List Lexeme} {a : AstArg} → Arg u v a → Args u v (a ∷ [])
  arg_and : {u v w : List Lexeme} {a : AstArg} {bs : List AstArg} (q : Place) → Arg u (lexeme.Infix Comma q ∷ v) a → Args v w bs → Args u w (a ∷ bs)

-- Kind := 'kind' Name (',' Name)* KExp '.'
-- Type := 'type' Name (',' Name)* TExp '.'
-- Pred := 'pred' Name [ Arg (',' Arg)* ] '.'
pub data DeclOf : List Lexeme → List Lexeme → Decl → Type 0 where
  kind : {u v w : List Lexeme} {ws : List Word} {n : ℕ} (p q : Place)
      → Names u v ws → KindExp v (lexeme.Mark Dot q ∷ w) n → DeclOf (lexeme.Mark KindWord p ∷ u) w (KindDecl ws n)
  type : {u v w : List Lexeme} {ws : List Word} {t : AstType} (p q : Place)
      → Names u v ws → TypeExp v (lexeme.Mark Dot q ∷ w) t → DeclOf (lexeme.Mark TypeWord p ∷ u) w (TypeDecl ws t)
  pred_alone : {w : List Lexeme} (x : List ℕ) (p d q : Place)
      → DeclOf (lexeme.Mark PredWord p ∷ lexeme.Word Name x d ∷ lexeme.Mark Dot q ∷ w) w (PredDecl (record { text = x; place = d }) [])
  pred : {u w : List Lexeme} {bs : List AstArg} (x : List ℕ) (p d q : Place)
      → Args u (lexeme.Mark Dot q ∷ w) bs → DeclOf (lexeme.Mark PredWord p ∷ lexeme.Word Name x d ∷ u) w (PredDecl (record { text = x; place = d }) bs)
