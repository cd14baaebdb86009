-- The rules of declarations of kinds and types, and the first that is broken.
use Rattle.std.specs.Prelude.{ℕ, Bool, false, ◌||◌, not, if◌then◌else◌, nat_eq, nat_lt, List, [], ◌∷◌, ◌++◌, length, map, flat_map, slice_index_or, codes, Option, Some, None}
use Rattle.std.specs.List.{list_any}
use Rattle.std.specs.Option.{option_map_or}
use Rattle.std.specs.Str.{bytes_eq}
use Rattle.lp_parser.specs.declared.ast.Place.{Place}
use Rattle.lp_resolve.specs.Places.{is_less_or}
use Rattle.lp_resolve.specs.StaticRules.{is_reserved}
use Rattle.decl_trees.specs.declared.trees.PlacedName.{PlacedName}
use Rattle.decl_trees.specs.declared.trees.TypeWord.{TypeWord}
use Rattle.decl_trees.specs.declared.trees.TypeWord.TheVariants.{Int, Str, Prop, List as ListWord, Named, Var}
use Rattle.decl_trees.specs.declared.trees.TypeTree.{TypeTree, fold-TypeTree}
use Rattle.decl_trees.specs.declared.trees.TypeTree.TheOpen.{TypeTree-F}
use Rattle.decl_trees.specs.declared.trees.DeclTree.{DeclTree}
use Rattle.decl_trees.specs.declared.trees.DeclTree.TheVariants.{KindTree, TypeOf, PredTree}
use Rattle.decl_types.specs.declared.breach.Breach.{Breach}
use Rattle.decl_types.specs.declared.names.DeclaredName.{DeclaredName}
use Rattle.decl_trees.specs.declared.rule.TypeRule.{TypeRule}
use Rattle.decl_trees.specs.declared.rule.TypeRule.TheVariants.{Y1, Y2, Y3, Y4}

abbrev pub breaches_if : Bool → TypeRule → Place → List Breach
breaches_if broken rule place = if broken then record { rule = rule; place = place } ∷ [] else []

-- one of these names
abbrev pub is_among : List DeclaredName → PlacedName → Bool
is_among earlier n = list_any (λ e. nat_eq n.sym.0 e.name.sym.0) earlier

-- the rule is broken at a name that may not be declared, and at one that an earlier declaration declares
abbrev pub name_breaches : TypeRule → (earlier : List DeclaredName) → List DeclaredName → List Breach
name_breaches rule earlier [] = []
name_breaches rule earlier (d ∷ names) = breaches_if (d.refused || is_among earlier d.name) rule d.name.place ++ name_breaches rule (earlier ++ d ∷ []) names

-- a text that is a word of types, which no kind may have for its name
abbrev pub is_word : List ℕ → Bool
is_word text = bytes_eq text (codes "int") || (bytes_eq text (codes "string") || (bytes_eq text (codes "prop") || bytes_eq text (codes "list")))

-- a name that a kind declares
abbrev pub kind_name : (table : List (List ℕ)) → PlacedName → DeclaredName
kind_name table n = record { name = n; refused = is_word (slice_index_or table n.sym.0 []) }

-- the names that kinds declare, in the order of the text
abbrev pub kind_names : (table : List (List ℕ)) → DeclTree → List DeclaredName
kind_names table (KindTree names arity) = map (kind_name table) names
kind_names table (TypeOf names ty) = []
kind_names table (PredTree name args) = []

-- a name that a `type` declares: reserved ones it may not declare
abbrev pub type_name : PlacedName → DeclaredName
type_name n = record { name = n; refused = is_reserved n.sym.0 }

-- those that a `type` or a `pred` declares
abbrev pub typed_names : DeclTree → List DeclaredName
typed_names (KindTree names arity) = []
typed_names (TypeOf names ty) = map type_name names
typed_names (PredTree name args) = record { name = name; refused = false } ∷ []

-- a declared kind: the number of its name, and the number of its arrows
pub record Kind : Type 0 where
  pub name : ℕ
  pub arrows : ℕ

abbrev pub kind_of : (arity : ℕ) → PlacedName → Kind
kind_of arity n = record { name = n.sym.0; arrows = arity }

abbrev pub kinds_in : DeclTree → List Kind
kinds_in (KindTree names arity) = map (kind_of arity) names
kinds_in (TypeOf names ty) = []
kinds_in (PredTree name args) = []

-- how many arrows a kind has, where it is one of these; a name that several of them have counts as the first has it
abbrev pub arrows_of : List Kind → ℕ → Option ℕ
arrows_of [] c = None
arrows_of (k ∷ kinds) c = if nat_eq c k.name then Some k.arrows else arrows_of kinds c

-- how many arguments a word has, where kinds have so many arrows
abbrev pub arguments_of : (arrows : ℕ → Option ℕ) → TypeWord → Option ℕ
arguments_of arrows Int = Some 0
arguments_of arrows Str = Some 0
arguments_of arrows Prop = Some 0
arguments_of arrows ListWord = Some 1
arguments_of arrows (Named s) = arrows s.0
arguments_of arrows (Var i) = Some 0

-- a word that is no kind, or has another number of arguments
abbrev pub is_misused : (arrows : ℕ → Option ℕ) → TypeWord → (arguments : ℕ) → Bool
is_misused arrows word arguments = not (option_map_or (nat_eq arguments) (arguments_of arrows word) false)

-- Y3 is broken at each of these
abbrev pub word_breaches_at : (arrows : ℕ → Option ℕ) → TypeTree-F (List Breach) → List Breach
word_breaches_at arrows (TypeTree-F.Word word args place) = breaches_if (is_misused arrows word (length args)) Y3 place ++ flat_map (λ breaches. breaches) args
word_breaches_at arrows (TypeTree-F.Arrow left right) = left ++ right

abbrev pub word_breaches : (arrows : ℕ → Option ℕ) → TypeTree → List Breach
word_breaches arrows = fold-TypeTree (List Breach) (word_breaches_at arrows)

abbrev pub breaches_of_words : (arrows : ℕ → Option ℕ) → DeclTree → List Breach
breaches_of_words arrows (KindTree names arity) = []
breaches_of_words arrows (TypeOf names ty) = word_breaches arrows ty
breaches_of_words arrows (PredTree name args) = flat_map (word_breaches arrows) args

-- all breaches of Y1 to Y3
abbrev pub breaches : (table : List (List ℕ)) → List DeclTree → List Breach
breaches table decls =
    name_breaches Y1 [] (flat_map (kind_names table) decls)
    ++ name_breaches Y2 [] (flat_map typed_names decls)
    ++ flat_map (breaches_of_words (arrows_of (flat_map kinds_in decls))) decls

-- the number of a rule
abbrev pub number_of : TypeRule → ℕ
number_of Y1 = 1
number_of Y2 = 2
number_of Y3 = 3
number_of Y4 = 4

-- the order of breaches: by file, then by byte, then by number
abbrev pub is_before : Breach → Breach → Bool
is_before a b = is_less_or a.place.file b.place.file (is_less_or a.place.at b.place.at (nat_lt (number_of a.rule) (number_of b.rule)))

-- the earlier of two breaches, where there are any
abbrev pub earlier : Option Breach → Option Breach → Option Breach
earlier None b = b
earlier (Some a) None = Some a
earlier (Some a) (Some b) = if is_before b a then Some b else Some a

-- the first of these breaches
abbrev pub first_of : List Breach → Option Breach
first_of [] = None
first_of (b ∷ bs) = earlier (Some b) (first_of bs)

-- the first broken rule of declarations
unfoldable pub first_breach : (table : List (List ℕ)) → List DeclTree → Option Breach
first_breach table decls = first_of (breaches table decls)
