-- Types of texts, form by form.
use Rattle.std.proofs.Common.{◌≡◌, ◌∙◌, ℕ, List, [], ◌∷◌, ◌++◌, map, ap, sym, refl}
use Rattle.std.specs.List.{flat_map}
use Rattle.lp_parser.specs.declared.ast.Word.{Word}
use Rattle.lp_parser.specs.declared.ast.AstType.{AstType, fold-roll-AstType}
use Rattle.lp_parser.specs.declared.ast.AstType.TheVariants.{Named, Arrow, rolls-Named, rolls-Arrow}
use Rattle.lp_parser.specs.declared.ast.AstType.TheOpen.{AstType-F}
use Rattle.lp_resolve.specs.Symbols.{number_of}
use Rattle.decl_trees.specs.declared.trees.TypeTree.{TypeTree}
use Rattle.decl_trees.specs.declared.trees.TypeTree.TheVariants as tree
use Rattle.decl_read.specs.DeclReading.{type_texts, type_texts_at, variable_texts, variables_in, variables_at, word_of, type_of, type_at}

flat-mapped : {A B : Type 0} (f : A → List B) (xs : List A) → flat_map (λ ys. ys) (map f xs) ≡ flat_map f xs
flat-mapped f [] = refl
flat-mapped f (x ∷ xs) = ap (λ ys. f x ++ ys) (flat-mapped f xs)

-- the texts of a word with arguments, and of an arrow
pub texts-named : (w : Word) (args : List AstType) → type_texts (Named w args) ≡ w.text ∷ flat_map type_texts args
texts-named w args =
    ap type_texts (sym (rolls-Named w args)) ∙ fold-roll-AstType (List (List ℕ)) type_texts_at (AstType-F.Named w args)
    ∙ ap (λ (ys : List (List ℕ)). w.text ∷ ys) (flat-mapped type_texts args)

pub texts-arrow : (a b : AstType) → type_texts (Arrow a b) ≡ type_texts a ++ type_texts b
texts-arrow a b = ap type_texts (sym (rolls-Arrow a b)) ∙ fold-roll-AstType (List (List ℕ)) type_texts_at (AstType-F.Arrow a b)

-- their variables
pub variables-named : (w : Word) (args : List AstType) → variables_in (Named w args) ≡ variable_texts w.text ++ flat_map variables_in args
variables-named w args =
    ap variables_in (sym (rolls-Named w args)) ∙ fold-roll-AstType (List (List ℕ)) variables_at (AstType-F.Named w args)
    ∙ ap (λ (ys : List (List ℕ)). variable_texts w.text ++ ys) (flat-mapped variables_in args)

pub variables-arrow : (a b : AstType) → variables_in (Arrow a b) ≡ variables_in a ++ variables_in b
variables-arrow a b = ap variables_in (sym (rolls-Arrow a b)) ∙ fold-roll-AstType (List (List ℕ)) variables_at (AstType-F.Arrow a b)

-- what they are read as
pub type-named : (table variables : List (List ℕ)) (w : Word) (args : List AstType)
    → type_of table variables (Named w args) ≡ tree.Word (word_of (number_of table w.text) variables w.text) (map (type_of table variables) args) w.place
type-named table variables w args =
    ap (type_of table variables) (sym (rolls-Named w args)) ∙ fold-roll-AstType TypeTree (type_at table variables) (AstType-F.Named w args)

pub type-arrow : (table variables : List (List ℕ)) (a b : AstType) → type_of table variables (Arrow a b) ≡ tree.Arrow (type_of table variables a) (type_of table variables b)
type-arrow table variables a b = ap (type_of table variables) (sym (rolls-Arrow a b)) ∙ fold-roll-AstType TypeTree (type_at table variables) (AstType-F.Arrow a b)
