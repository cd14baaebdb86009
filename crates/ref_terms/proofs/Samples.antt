-- Words in which examples are written.
use Rattle.std.specs.Prelude.{ℕ, List, [], ◌∷◌, ◌++◌, flat_map, pos, codes}
use Rattle.ref_terms.specs.terms.Term.{Term, At, Con, Int, Bound, Var}

-- a constant
abbrev pub constant : ℕ → Term
constant c = At (Con c)

-- a variable
abbrev pub variable : ℕ → Term
variable v = At (Var v)

-- a bound name
abbrev pub bound : ℕ → Term
bound i = At (Bound i)

-- an integer
abbrev pub integer : ℕ → Term
integer n = At (Int (pos n))

-- the texts of the first symbols; those of an example follow from 25 on
abbrev pub table : List (List ℕ)
table = codes "true" ∷ codes "fail" ∷ codes "!" ∷ codes "," ∷ codes ";" ∷ codes "=>" ∷ codes ":-" ∷ codes "pi" ∷ codes "sigma"
    ∷ codes "=" ∷ codes "same" ∷ codes "var" ∷ codes "name" ∷ codes "is" ∷ codes "lt" ∷ codes "print" ∷ codes "beta" ∷ codes "declare_constraint"
    ∷ codes "[]" ∷ codes "::" ∷ codes "+" ∷ codes "-" ∷ codes "*" ∷ codes "nonvar" ∷ codes "distinct" ∷ []

-- the bytes of these lines
abbrev pub lines : List (List ℕ) → List ℕ
lines ls = flat_map (λ l. l ++ 10 ∷ []) ls
