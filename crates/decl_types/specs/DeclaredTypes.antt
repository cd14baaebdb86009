-- The types with variables that declarations give to constants.
use Rattle.std.specs.Prelude.{ℕ, ◌+◌, max, nat_eq, nat_lt, if◌then◌else◌, List, [], ◌∷◌, map, flat_map, fold, Option, Some, None, option_map, option_and_then}
use Rattle.std.specs.Option.{option_or}
use Rattle.decl_trees.specs.declared.trees.PlacedName.{PlacedName}
use Rattle.decl_trees.specs.declared.trees.TypeWord.{TypeWord}
use Rattle.decl_trees.specs.declared.trees.TypeWord.TheVariants.{Int, Str, Prop, List as ListWord, Named, Var}
use Rattle.decl_trees.specs.declared.trees.TypeTree.{TypeTree, fold-TypeTree}
use Rattle.decl_trees.specs.declared.trees.TypeTree.TheOpen.{TypeTree-F}
use Rattle.decl_trees.specs.declared.trees.DeclTree.{DeclTree}
use Rattle.decl_trees.specs.declared.trees.DeclTree.TheVariants.{KindTree, TypeOf, PredTree}
use Rattle.type_graph.specs.declared.node.Word.TheVariants as word
use Rattle.type_terms.specs.declared.scheme.Scheme.{Scheme}
use Rattle.type_terms.specs.declared.scheme.Scheme.TheVariants as scheme
use Rattle.type_terms.specs.declared.scheme.Polytype.{Polytype}
use Rattle.ref_terms.specs.search.Reserved.{word_of}
use Rattle.decl_types.specs.Reserved.{to, prop, reserved_type}

-- the type that a word is, without its arguments
abbrev pub word_scheme : TypeWord → Scheme
word_scheme Int = scheme.Leaf word.Int
word_scheme Str = scheme.Leaf word.Text
word_scheme Prop = scheme.Leaf word.Prop
word_scheme ListWord = scheme.Leaf word.List
word_scheme (Named s) = scheme.Leaf (word.Kind s.0)
word_scheme (Var i) = scheme.Variable i

-- a type of a text, those in it already read
abbrev pub scheme_at : TypeTree-F Scheme → Scheme
scheme_at (TypeTree-F.Word w args place) = fold scheme.Apply (word_scheme w) args
scheme_at (TypeTree-F.Arrow a b) = to a b

abbrev pub scheme_of : TypeTree → Scheme
scheme_of = fold-TypeTree Scheme scheme_at

-- the type of a predicate with these arguments
abbrev pub pred_scheme : List TypeTree → Scheme
pred_scheme [] = prop
pred_scheme (a ∷ args) = to (scheme_of a) (pred_scheme args)

-- more than the number of the variable that a word is
abbrev pub word_variables : TypeWord → ℕ
word_variables (Var i) = i + 1
word_variables Int = 0
word_variables Str = 0
word_variables Prop = 0
word_variables ListWord = 0
word_variables (Named s) = 0

-- more than the number of each variable in a type
abbrev pub most_variables : List ℕ → ℕ
most_variables counts = fold (λ most count. max count most) 0 counts

abbrev pub variables_at : TypeTree-F ℕ → ℕ
variables_at (TypeTree-F.Word w args place) = max (word_variables w) (most_variables args)
variables_at (TypeTree-F.Arrow a b) = max a b

abbrev pub variables_of : TypeTree → ℕ
variables_of = fold-TypeTree ℕ variables_at

-- a constant with the type that a `type` or a `pred` declares
pub record Declared : Type 0 where
  pub name : ℕ
  pub type : Polytype

abbrev pub typed_so : TypeTree → PlacedName → Declared
typed_so ty n = record { name = n.sym.0; type = record { variables = variables_of ty; scheme = scheme_of ty } }

abbrev pub declared_in : DeclTree → List Declared
declared_in (KindTree names arity) = []
declared_in (TypeOf names ty) = map (typed_so ty) names
declared_in (PredTree name args) = record { name = name.sym.0; type = record { variables = most_variables (map variables_of args); scheme = pred_scheme args } } ∷ []

-- the type of a constant, where one of these declares it; the first counts
abbrev pub type_in : List Declared → ℕ → Option Polytype
type_in [] c = None
type_in (d ∷ declared) c = if nat_eq c d.name then Some d.type else type_in declared c

-- the type of a reserved constant, over two variables
abbrev pub reserved_polytype : ℕ → Option Polytype
reserved_polytype c = option_map (λ s. record { variables = 2; scheme = s }) (option_and_then reserved_type (word_of c))

-- the types that are declared for the first so many constants, which are those of a table; reserved ones have theirs
abbrev pub declared_types : (count : ℕ) → List DeclTree → ℕ → Option Polytype
declared_types count decls c = if nat_lt c count then option_or (reserved_polytype c) (type_in (flat_map declared_in decls) c) else None
