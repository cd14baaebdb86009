-- The built-ins, by their reserved names.
use Rattle.std.specs.Prelude.{◌≡◌, ℕ}
use Rattle.ref_terms.specs.declared.reserved.Reserved.{Reserved}
use Rattle.ref_terms.specs.declared.reserved.Reserved.TheVariants as word
use Rattle.goal_form.specs.declared.builtin.Builtin.{Builtin}
use Rattle.goal_form.specs.declared.builtin.Builtin.TheVariants.{Equal, Same, Var, Name, Is, Less, Print, Beta}

-- the name of a built-in
abbrev pub builtin_word : Builtin → Reserved
builtin_word Equal = word.Equal
builtin_word Same = word.Same
builtin_word Var = word.Var
builtin_word Name = word.Name
builtin_word Is = word.Is
builtin_word Less = word.Less
builtin_word Print = word.Print
builtin_word Beta = word.Beta

-- the number of its arguments
abbrev pub arity_of : Builtin → ℕ
arity_of Equal = 2
arity_of Same = 2
arity_of Var = 1
arity_of Name = 1
arity_of Is = 2
arity_of Less = 2
arity_of Print = 1
arity_of Beta = 3

-- the name of no built-in
abbrev pub IsNoBuiltin : Reserved → Type 0
IsNoBuiltin w = (b : Builtin) → builtin_word b ≡ w → ⊥
