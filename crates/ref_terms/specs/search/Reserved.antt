-- The reserved names, by their numbers in the table of symbols.
use Rattle.std.specs.Prelude.{ℕ, List, [], ◌∷◌, Option, slice_get}
use Rattle.ref_terms.specs.terms.Term.{Term, At, App, Con}
pub use Rattle.ref_terms.specs.declared.reserved.Reserved.{Reserved}
pub use Rattle.ref_terms.specs.declared.reserved.Reserved.TheVariants.{True as True_word, Fail as Fail_word, Cut as Cut_word, And as And_word, Or as Or_word, Implies as Implies_word, If as If_word, Pi as Pi_word, Sigma as Sigma_word, Equal as Equal_word, Same as Same_word, Var as Var_word, Name as Name_word, Is as Is_word, Less as Less_word, Print as Print_word, Beta as Beta_word, Suspend as Suspend_word, Nil as Nil_word, Cons as Cons_word, Plus as Plus_word, Minus as Minus_word, Times as Times_word, Nonvar as Nonvar_word, Distinct as Distinct_word}

-- in the order of their numbers
abbrev pub words : List Reserved
words = True_word ∷ Fail_word ∷ Cut_word ∷ And_word ∷ Or_word ∷ Implies_word ∷ If_word ∷ Pi_word ∷ Sigma_word
    ∷ Equal_word ∷ Same_word ∷ Var_word ∷ Name_word ∷ Is_word ∷ Less_word ∷ Print_word ∷ Beta_word ∷ Suspend_word
    ∷ Nil_word ∷ Cons_word ∷ Plus_word ∷ Minus_word ∷ Times_word ∷ Nonvar_word ∷ Distinct_word ∷ []

-- the reserved name with this number
abbrev pub word_of : ℕ → Option Reserved
word_of c = slice_get words c

-- `D :- G`, `G => D` and `pi F` as terms
abbrev pub if_term : Term → Term → Term
if_term d g = App (App (At (Con 6)) d) g

-- `G => D`
abbrev pub implies_term : Term → Term → Term
implies_term g d = App (App (At (Con 5)) g) d

-- `pi F`
abbrev pub pi_term : Term → Term
pi_term f = App (At (Con 7)) f

-- the body of a rule without body
abbrev pub true_term : Term
true_term = At (Con 0)
