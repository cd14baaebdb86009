-- Lines that are written one after another.
use Rattle.std.specs.Prelude.{◌≡◌, ℕ, List, map}
use Rattle.lp_resolve.specs.Symbols.{Begins}
use Rattle.type_texts.specs.OpenTypes.{OpenType}
use Rattle.type_texts.specs.TypeText.{variables_in, noted_all}
use Rattle.type_texts.specs.TypeLines.{type_of, type_line, variables_of}

module _ (table : List (List ℕ)) (types : List OpenType) where
  -- The line of a constant over each list that begins with the variables that are numbered so far, among them those of its
  -- type.
  pub record WritesLine (variables : List ℕ) (constant : ℕ) (variables' line : List ℕ) : Type 0 where
    pub grows : Begins variables variables'
    pub numbers : variables' ≡ noted_all variables (variables_in (type_of types constant))
    pub text : (all : List ℕ) → Begins variables' all → line ≡ type_line table types all constant

  -- the same of several constants, with no variable before them
  pub record HasLines (constants variables : List ℕ) (lines : List (List ℕ)) : Type 0 where
    pub numbers : variables ≡ variables_of types constants
    pub texts : (all : List ℕ) → Begins variables all → lines ≡ map (type_line table types all) constants
