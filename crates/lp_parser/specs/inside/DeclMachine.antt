-- The machine that reads declarations behind their first word.
use Rattle.std.specs.Prelude.{ℕ, ◌+◌, List, [], ◌∷◌, ◌++◌, Bool, Option, Some, None}
use Rattle.lp_parser.specs.declared.ast.WordKind.TheVariants.{Name}
use Rattle.lp_parser.specs.declared.ast.Operator.TheVariants.{Comma}
use Rattle.lp_parser.specs.declared.ast.Word.{Word}
use Rattle.lp_parser.specs.declared.ast.AstType.{AstType}
use Rattle.lp_parser.specs.declared.ast.AstArg.{AstArg}
use Rattle.lp_parser.specs.declared.ast.Decl.{Decl}
use Rattle.lp_parser.specs.declared.ast.Decl.TheVariants.{KindDecl, TypeDecl, PredDecl}
use Rattle.lp_parser.specs.declared.lexeme.Mark.TheVariants as mark
use Rattle.lp_parser.specs.declared.lexeme.Lexeme.{Lexeme}
use Rattle.lp_parser.specs.declared.lexeme.Lexeme.TheVariants as lexeme
use Rattle.lp_parser.specs.declared.item_state.TypeState.{TypeState}
use Rattle.lp_parser.specs.declared.item_state.TypeState.TheVariants.{Want}
use Rattle.lp_parser.specs.declared.item_state.Given.{Given}
use Rattle.lp_parser.specs.declared.item_state.Given.TheVariants as given
use Rattle.lp_parser.specs.declared.item_state.DeclState.{DeclState}
use Rattle.lp_parser.specs.declared.item_state.DeclState.TheVariants as decl
use Rattle.lp_parser.specs.declared.item_state.Moved.{Moved}
use Rattle.lp_parser.specs.declared.item_state.Moved.TheVariants.{To, Done}
use Rattle.lp_parser.specs.Declarations.{mode_of}
use Rattle.lp_parser.specs.inside.TypeMachine.{type_step, type_settled, type_whole}

-- where a lexeme leads from a state of a declaration
abbrev pub DeclMoved : Type 0
DeclMoved = Option (Moved DeclState Decl)

-- a name, behind these
abbrev pub decl_name : Given → List Word → Lexeme → DeclMoved
decl_name g ws (lexeme.Word Name x p) = Some (To (decl.Named g (ws ++ record { text = x; place = p } ∷ [])))
decl_name g ws _ = None

-- behind the last name of a kind
abbrev pub kind_named : List Word → Lexeme → DeclMoved
kind_named ws (lexeme.Mark mark.TypeWord p) = Some (To (decl.Kinded ws 0))
kind_named ws _ = None

-- In the type of these names, where a lexeme leads the type to that state, or to none.
abbrev pub in_type : List Word → Option TypeState → Lexeme → Option AstType → DeclMoved
in_type ws (Some q) c t = Some (To (decl.Type ws q))
in_type ws None (lexeme.Mark mark.Dot p) (Some t) = Some (Done (TypeDecl ws t))
in_type ws None _ _ = None

-- behind the last name
abbrev pub decl_named : Given → List Word → Lexeme → DeclMoved
decl_named g ws (lexeme.Infix Comma p) = Some (To (decl.Name g ws))
decl_named given.Kind ws c = kind_named ws c
decl_named given.TypeOf ws c = in_type ws (type_step (Want []) c) c None

-- the word `type`, behind n arrows
abbrev pub kind_type : List Word → ℕ → Lexeme → DeclMoved
kind_type ws n (lexeme.Mark mark.TypeWord p) = Some (To (decl.Kinded ws n))
kind_type ws n _ = None

-- behind the word `type`
abbrev pub kind_typed : List Word → ℕ → Lexeme → DeclMoved
kind_typed ws n (lexeme.Mark mark.Arrow p) = Some (To (decl.Kind ws (n + 1)))
kind_typed ws n (lexeme.Mark mark.Dot p) = Some (Done (KindDecl ws n))
kind_typed ws n _ = None

-- the name of a predicate
abbrev pub pred_name : Lexeme → DeclMoved
pred_name (lexeme.Word Name x p) = Some (To (decl.PredNamed (record { text = x; place = p })))
pred_name _ = None

-- the mode that is read
abbrev pub with_mode : Word → List AstArg → Option Bool → DeclMoved
with_mode w bs None = None
with_mode w bs (Some b) = Some (To (decl.Colon w bs b))

-- a mode, behind these arguments
abbrev pub pred_mode : Word → List AstArg → Lexeme → DeclMoved
pred_mode w bs (lexeme.Word Name x p) = with_mode w bs (mode_of x)
pred_mode w bs _ = None

-- behind the name of a predicate
abbrev pub pred_named : Word → Lexeme → DeclMoved
pred_named w (lexeme.Mark mark.Dot p) = Some (Done (PredDecl w []))
pred_named w c = pred_mode w [] c

-- the `:` behind a mode
abbrev pub pred_colon : Word → List AstArg → Bool → Lexeme → DeclMoved
pred_colon w bs b (lexeme.Mark mark.Colon p) = Some (To (decl.ArgType w bs b (Want [])))
pred_colon w bs b _ = None

-- behind an argument
abbrev pub pred_argument : Word → List AstArg → Lexeme → DeclMoved
pred_argument w bs (lexeme.Infix Comma p) = Some (To (decl.Mode w bs))
pred_argument w bs (lexeme.Mark mark.Dot p) = Some (Done (PredDecl w bs))
pred_argument w bs _ = None

-- behind the type of an argument, where it may end
abbrev pub pred_typed : Word → List AstArg → Bool → Lexeme → Option AstType → DeclMoved
pred_typed w bs b c None = None
pred_typed w bs b c (Some t) = pred_argument w (bs ++ record { input = b; ty = t } ∷ []) c

-- in the type of an argument, where a lexeme leads the type to that state, or to none
abbrev pub in_arg_type : Word → List AstArg → Bool → Option TypeState → Lexeme → Option AstType → DeclMoved
in_arg_type w bs b (Some q) c t = Some (To (decl.ArgType w bs b q))
in_arg_type w bs b None c t = pred_typed w bs b c t

-- where a lexeme leads
abbrev pub decl_move : DeclState → Lexeme → DeclMoved
decl_move (decl.Name g ws) c = decl_name g ws c
decl_move (decl.Named g ws) c = decl_named g ws c
decl_move (decl.Kind ws n) c = kind_type ws n c
decl_move (decl.Kinded ws n) c = kind_typed ws n c
decl_move (decl.Type ws q) c = in_type ws (type_step q c) c (type_whole (type_settled q))
decl_move decl.Pred c = pred_name c
decl_move (decl.PredNamed w) c = pred_named w c
decl_move (decl.Mode w bs) c = pred_mode w bs c
decl_move (decl.Colon w bs b) c = pred_colon w bs b c
decl_move (decl.ArgType w bs b q) c = in_arg_type w bs b (type_step q c) c (type_whole (type_settled q))
