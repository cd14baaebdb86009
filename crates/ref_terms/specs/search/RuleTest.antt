-- Tests of rules.
use Rattle.std.specs.Prelude.{ℕ, Bool, false, not, List, [], ◌∷◌, Option, Some, option_and_then}
use Rattle.ref_terms.specs.terms.Term.{Term}
use Rattle.ref_terms.specs.unification.Spine.{args_of, head_of}
use Rattle.ref_terms.specs.search.Reserved.{Reserved, Var_word, Name_word, Same_word, Less_word, Nonvar_word, Distinct_word, word_of}
use Rattle.ref_terms.specs.search.Fault.{Judged, Good, Bad}
use Rattle.ref_terms.specs.search.Program.{constant_of}
use Rattle.ref_terms.specs.search.Value.{term_eq, is_flex, is_bare_name}
use Rattle.ref_terms.specs.search.Arithmetic.{less}

-- true, and no fault
abbrev pub good_and_true : Judged Bool → Bool
good_and_true (Good b) = b
good_and_true (Bad e) = false

-- a test by its word and its arguments
abbrev pub test_holds : Option Reserved → List Term → Bool
test_holds (Some Var_word) (a ∷ []) = is_flex a
test_holds (Some Nonvar_word) (a ∷ []) = not (is_flex a)
test_holds (Some Name_word) (a ∷ []) = is_bare_name a
test_holds (Some Same_word) (a ∷ b ∷ []) = term_eq a b
test_holds (Some Distinct_word) (a ∷ b ∷ []) = not (term_eq a b)
test_holds (Some Less_word) (a ∷ b ∷ []) = good_and_true (less a b)
test_holds _ _ = false

-- the word of a constant
abbrev pub word_at : Option ℕ → Option Reserved
word_at c = option_and_then word_of c

-- whether a test holds; it never binds and never faults
abbrev pub holds : Term → Bool
holds t = test_holds (word_at (constant_of (head_of t))) (args_of t)
