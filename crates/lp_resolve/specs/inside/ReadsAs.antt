-- What a text is read as, whatever is put into the table later.
use Rattle.std.specs.Prelude.{◌≡◌, ℕ, List}
use Rattle.lp_resolve.specs.Symbols.{Begins}
use Rattle.lp_resolve.specs.Variables.{Met}
use Rattle.lp_resolve.specs.ProgramReading.{Read}

-- Over this table and each later one, what stands after these variables is read as that value, and then those were met.
pub record ReadsAs {A B : Type 0} (read : List (List ℕ) → Met → A → Read B) (table : List (List ℕ)) (before : Met) (text : A) (value : B) (after : Met) : Type 0 where
  pub is : (later : List (List ℕ)) → Begins table later → read later before text ≡ record { value = value; met = after }
