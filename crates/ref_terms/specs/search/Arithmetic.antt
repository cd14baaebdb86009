-- Integers, and expressions of them.
use Rattle.std.specs.Prelude.{◌^◌, ◌-◌, Bool, true, false, cond, not, ◌&&◌, ℤ, pos, negsuc, ◌+ℤ◌, ◌-ℤ◌, ◌*ℤ◌, int_lt, Option, Some, None}
use Rattle.ref_terms.specs.terms.Term.{Term, At, App, Con, Int}
use Rattle.ref_terms.specs.unification.Shape.{Shape, Redex as RedexShape, shape}
use Rattle.ref_terms.specs.search.Reserved.{Reserved, Plus_word, Minus_word, Times_word, word_of}
use Rattle.ref_terms.specs.search.Fault.{Judged, Good, Bad}
use Rattle.ref_terms.specs.declared.fault.Fault.{Fault}
use Rattle.ref_terms.specs.declared.fault.Fault.TheVariants.{Redex, Number}

-- an integer without arguments
abbrev pub integer_of : Term → Option ℤ
integer_of (At (Int z)) = Some z
integer_of _ = None

-- a stuck abstraction is another fault than any other term
abbrev pub shape_fault : Shape → Fault
shape_fault RedexShape = Redex
shape_fault _ = Number

-- the fault of a term that should be a number
abbrev pub number_fault : Term → Fault
number_fault t = shape_fault (shape 0 t)

-- the integer, or the term's fault
abbrev pub judged_integer : Option ℤ → Term → Judged ℤ
judged_integer (Some z) t = Good z
judged_integer None t = Bad (number_fault t)

-- an operand of `lt`
abbrev pub operand : Term → Judged ℤ
operand t = judged_integer (integer_of t) t

-- a comparison of two operands, where the left fault decides
abbrev pub judged_less : Judged ℤ → Judged ℤ → Judged Bool
judged_less (Good a) (Good b) = Good (int_lt a b)
judged_less (Good a) (Bad e) = Bad e
judged_less (Bad e) r = Bad e

-- whether the first integer is less; the left operand is looked at first
abbrev pub less : Term → Term → Judged Bool
less a b = judged_less (operand a) (operand b)

-- inside the range of 64 bits with a sign
abbrev pub fits : ℤ → Bool
fits z = not (int_lt z (negsuc (2 ^ 63 - 1))) && int_lt z (pos (2 ^ 63))

-- a result past the range is a fault
abbrev pub in_range : ℤ → Judged ℤ
in_range z = cond (fits z) (Good z) (Bad Number)

-- the result of an operator
abbrev pub calculated : Option Reserved → ℤ → ℤ → Judged ℤ
calculated (Some Plus_word) a b = in_range (a +ℤ b)
calculated (Some Minus_word) a b = in_range (a -ℤ b)
calculated (Some Times_word) a b = in_range (a *ℤ b)
calculated _ a b = Bad Number

-- the operators of expressions
abbrev pub is_operator : Option Reserved → Bool
is_operator (Some Plus_word) = true
is_operator (Some Minus_word) = true
is_operator (Some Times_word) = true
is_operator _ = false

-- both operands before their operator, the left one first
abbrev pub combined : Option Reserved → Judged ℤ → Judged ℤ → Judged ℤ
combined w (Good a) (Good b) = calculated w a b
combined w (Good a) (Bad e) = Bad e
combined w (Bad e) r = Bad e

-- the value of an expression, or its leftmost fault: both operands stand before their operator
abbrev pub value_of : Term → Judged ℤ
value_of (App (App (At (Con c)) a) b) = cond (is_operator (word_of c)) (combined (word_of c) (value_of a) (value_of b)) (Bad Number)
value_of t = operand t
