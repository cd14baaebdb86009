-- Tables of declared types.
use Rattle.std.specs.Prelude.{◌≡◌, ◌<◌, ℕ, List, length, Option}
use Rattle.std.specs.Option.{option_or}
use Rattle.type_terms.specs.declared.scheme.Polytype.{Polytype}
use Rattle.type_terms.specs.Read.{declared_of}
use Rattle.decl_types.specs.DeclaredTypes.{Declared, type_in}

-- in the new table each constant that had no type has the one that it is given here, where it is given one
pub record Gains (old new : List (Option Polytype)) (given : List Declared) : Type 0 where
  pub same : length new ≡ length old
  pub types : (c : ℕ) → c < length old → declared_of new c ≡ option_or (declared_of old c) (type_in given c)
