-- The lines of a program's types.
use Rattle.std.specs.Prelude.{◌≡◌, ℕ, Bool, List, [], ◌∷◌, ◌++◌, length, map, flat_map, codes, slice_index_or, None, IsPermutation}
use Rattle.std.specs.Ordering.{is_lt, nat_cmp}
use Rattle.std.specs.Cmp.Lexicographic.{slice_cmp}
use Rattle.std.specs.List.Sorted.{IsSortedBy}
use Rattle.decl_trees.specs.declared.trees.DeclTree.{DeclTree}
use Rattle.decl_types.specs.DeclaredTypes.{declared_types}
use Rattle.decl_types.specs.TypeRules.{first_breach}
use Rattle.lp_resolve.specs.declared.program.Program.{Program}
use Rattle.type_check.specs.Typings.{items_of}
use Rattle.type_texts.specs.OpenTypes.{OpenType, open_variable, ArePrincipal}
use Rattle.type_texts.specs.TypeText.{variables_in, noted_all, type_text}
use Rattle.type_texts.specs.Occurring.{undeclared}

-- the name of a constant, and its type
abbrev pub name_in : (table : List (List ℕ)) → ℕ → List ℕ
name_in table c = slice_index_or table c []

abbrev pub type_of : List OpenType → ℕ → OpenType
type_of types c = slice_index_or types c (open_variable c)

-- the line of a constant: its name, a colon and its type, whose variables are known by their places in a list
abbrev pub type_line : (table : List (List ℕ)) (types : List OpenType) (variables : List ℕ) → ℕ → List ℕ
type_line table types variables c = name_in table c ++ (codes " : " ++ (type_text table variables (type_of types c) ++ 10 ∷ []))

-- the variables of some constants' types, in the order of first places
abbrev pub variables_of : List OpenType → List ℕ → List ℕ
variables_of types constants = noted_all [] (flat_map (λ c. variables_in (type_of types c)) constants)

-- the lines of some constants; a variable is numbered by its first place in all of them
abbrev pub type_lines : (table : List (List ℕ)) → List OpenType → List ℕ → List (List ℕ)
type_lines table types constants = map (type_line table types (variables_of types constants)) constants

-- a name is before another one, byte by byte
abbrev pub is_name_before : (table : List (List ℕ)) → ℕ → ℕ → Bool
is_name_before table c d = is_lt (slice_cmp nat_cmp (name_in table c) (name_in table d))

-- these are the undeclared constants that occur in a program, each once, in the order of their names' bytes
pub record AreShown (table : List (List ℕ)) (decls : List DeclTree) (p : Program) (constants : List ℕ) : Type 0 where
  pub each : IsPermutation (undeclared (length table) (declared_types (length table) decls) p) constants
  pub ordered : IsSortedBy (is_name_before table) constants

-- These are the lines of a program's principal types, one for each undeclared constant that occurs, in the order of names; no
-- rule of declarations is broken.
pub record AreTypeLines (table : List (List ℕ)) (decls : List DeclTree) (p : Program) (lines : List (List ℕ)) : Type 0 where
  pub unbroken : first_breach table decls ≡ None
  pub types : List OpenType
  pub constants : List ℕ
  pub principal : ArePrincipal (declared_types (length table) decls) (length table) (items_of p) types
  pub shown : AreShown table decls p constants
  pub lines_are : lines ≡ type_lines table types constants
