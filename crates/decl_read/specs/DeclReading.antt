-- What declarations are read as, over the table of the symbols' texts.
use Rattle.std.specs.Prelude.{ℕ, Bool, false, ◌&&◌, ◌||◌, nat_eq, nat_le, if◌then◌else◌, codes, List, [], ◌∷◌, ◌++◌, map, flat_map}
use Rattle.std.specs.Str.{bytes_eq}
use Rattle.lp_parser.specs.declared.ast.Word.{Word}
use Rattle.lp_parser.specs.declared.ast.AstType.{AstType, fold-AstType}
use Rattle.lp_parser.specs.declared.ast.AstType.TheOpen.{AstType-F}
use Rattle.lp_parser.specs.declared.ast.Decl.{Decl}
use Rattle.lp_parser.specs.declared.ast.Decl.TheVariants.{KindDecl, TypeDecl, PredDecl}
use Rattle.lp_parser.specs.declared.ast.Item.{Item}
use Rattle.lp_parser.specs.declared.ast.Item.TheVariants as item
use Rattle.lp_resolve.specs.Symbols.{number_of, interned_all}
use Rattle.lp_resolve.specs.ProgramReading.{symbol_of}
use Rattle.decl_trees.specs.declared.trees.PlacedName.{PlacedName}
use Rattle.decl_trees.specs.declared.trees.TypeWord.{TypeWord}
use Rattle.decl_trees.specs.declared.trees.TypeWord.TheVariants.{Int, Str, Prop, List as ListWord, Named, Var}
use Rattle.decl_trees.specs.declared.trees.TypeTree.{TypeTree}
use Rattle.decl_trees.specs.declared.trees.TypeTree.TheVariants as tree
use Rattle.decl_trees.specs.declared.trees.DeclTree.{DeclTree}
use Rattle.decl_trees.specs.declared.trees.DeclTree.TheVariants.{KindTree, TypeOf, PredTree}

-- the texts of one layer of a type, those of its parts already listed
abbrev pub type_texts_at : AstType-F (List (List ℕ)) → List (List ℕ)
type_texts_at (AstType-F.Named word args) = word.text ∷ flat_map (λ texts. texts) args
type_texts_at (AstType-F.Arrow left right) = left ++ right

-- the texts of a type's words, from the left
abbrev pub type_texts : AstType → List (List ℕ)
type_texts = fold-AstType (List (List ℕ)) type_texts_at

-- whether a text is a variable: it begins with a capital or with `_`
abbrev pub is_variable : List ℕ → Bool
is_variable [] = false
is_variable (byte ∷ text) = (nat_le 65 byte && nat_le byte 90) || nat_eq byte 95

-- a text, where it is a variable
abbrev pub variable_texts : List ℕ → List (List ℕ)
variable_texts text = if is_variable text then text ∷ [] else []

abbrev pub variables_at : AstType-F (List (List ℕ)) → List (List ℕ)
variables_at (AstType-F.Named word args) = variable_texts word.text ++ flat_map (λ texts. texts) args
variables_at (AstType-F.Arrow left right) = left ++ right

-- the variables of a type, from the left, each as often as it stands there
abbrev pub variables_in : AstType → List (List ℕ)
variables_in = fold-AstType (List (List ℕ)) variables_at

-- what a text is, over its number and the variables of its declaration, which are numbered by the order of first places
abbrev pub word_of : (number : ℕ) (variables : List (List ℕ)) (text : List ℕ) → TypeWord
word_of number variables text =
    if bytes_eq text (codes "int") then Int
    else if bytes_eq text (codes "string") then Str
    else if bytes_eq text (codes "prop") then Prop
    else if bytes_eq text (codes "list") then ListWord
    else if is_variable text then Var (number_of variables text)
    else Named (record { 0 = number })

module _ (table : List (List ℕ)) where
  -- one layer of a type, its parts already read
  abbrev pub type_at : (variables : List (List ℕ)) → AstType-F TypeTree → TypeTree
  type_at variables (AstType-F.Named word args) = tree.Word (word_of (number_of table word.text) variables word.text) args word.place
  type_at variables (AstType-F.Arrow left right) = tree.Arrow left right

  -- a type
  abbrev pub type_of : (variables : List (List ℕ)) → AstType → TypeTree
  type_of variables = fold-AstType TypeTree (type_at variables)

  -- a name that is declared
  abbrev pub placed : Word → PlacedName
  placed w = record { sym = symbol_of table w; place = w.place }

  -- a declaration; its variables are its own
  abbrev pub decl_of : Decl → DeclTree
  decl_of (KindDecl names arrows) = KindTree (map placed names) arrows
  decl_of (TypeDecl names ty) = TypeOf (map placed names) (type_of (interned_all [] (variables_in ty)) ty)
  decl_of (PredDecl name args) = PredTree (placed name) (map (λ a. type_of (interned_all [] (flat_map (λ b. variables_in b.ty) args)) a.ty) args)

  -- the declarations of an item
  abbrev pub item_decls : Item → List DeclTree
  item_decls (item.Decl d) = decl_of d ∷ []
  item_decls (item.Clause c) = []
  item_decls (item.Block b) = []

  -- the declarations of a program, in the order of the text
  abbrev pub declarations_of : List Item → List DeclTree
  declarations_of items = flat_map item_decls items

-- the texts of a declaration: of its names, and of the words of its types
abbrev pub decl_texts : Decl → List (List ℕ)
decl_texts (KindDecl names arrows) = map (λ w. w.text) names
decl_texts (TypeDecl names ty) = map (λ w. w.text) names ++ type_texts ty
decl_texts (PredDecl name args) = name.text ∷ flat_map (λ a. type_texts a.ty) args

-- those of the declarations of an item
abbrev pub item_texts : Item → List (List ℕ)
item_texts (item.Decl d) = decl_texts d
item_texts (item.Clause c) = []
item_texts (item.Block b) = []

-- the texts of a program's declarations
abbrev pub declared_texts : List Item → List (List ℕ)
declared_texts items = flat_map item_texts items
