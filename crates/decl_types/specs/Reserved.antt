-- The types of the reserved constants.
use Rattle.std.specs.Prelude.{Option, Some, None}
use Rattle.ref_terms.specs.declared.reserved.Reserved.{Reserved}
use Rattle.ref_terms.specs.declared.reserved.Reserved.TheVariants as word
use Rattle.type_graph.specs.declared.node.Word.TheVariants.{Int, Prop, List as ListOf, Arrow}
use Rattle.type_terms.specs.declared.scheme.Scheme.{Scheme}
use Rattle.type_terms.specs.declared.scheme.Scheme.TheVariants.{Variable, Leaf, Apply}

-- a -> b
abbrev pub to : Scheme → Scheme → Scheme
to a b = Apply (Apply (Leaf Arrow) a) b

abbrev pub prop : Scheme
prop = Leaf Prop

abbrev pub int : Scheme
int = Leaf Int

abbrev pub list : Scheme → Scheme
list a = Apply (Leaf ListOf) a

abbrev pub A : Scheme
A = Variable 0

abbrev pub B : Scheme
B = Variable 1

-- prop -> prop -> prop
abbrev pub connective : Scheme
connective = to prop (to prop prop)

-- (A -> prop) -> prop
abbrev pub quantifier : Scheme
quantifier = to (to A prop) prop

-- A -> A -> prop
abbrev pub comparison : Scheme
comparison = to A (to A prop)

-- A -> prop
abbrev pub property : Scheme
property = to A prop

-- int -> int -> prop
abbrev pub relation : Scheme
relation = to int (to int prop)

-- (A -> B) -> A -> B -> prop
abbrev pub application : Scheme
application = to (to A B) (to A (to B prop))

-- prop -> list A -> prop
abbrev pub suspension : Scheme
suspension = to prop (to (list A) prop)

-- A -> list A -> list A
abbrev pub cell : Scheme
cell = to A (to (list A) (list A))

-- int -> int -> int
abbrev pub operation : Scheme
operation = to int (to int int)

-- the type of a reserved constant; the two words of tests are none
abbrev pub reserved_type : Reserved → Option Scheme
reserved_type word.True = Some prop
reserved_type word.Fail = Some prop
reserved_type word.Cut = Some prop
reserved_type word.And = Some connective
reserved_type word.Or = Some connective
reserved_type word.Implies = Some connective
reserved_type word.If = Some connective
reserved_type word.Pi = Some quantifier
reserved_type word.Sigma = Some quantifier
reserved_type word.Equal = Some comparison
reserved_type word.Same = Some comparison
reserved_type word.Var = Some property
reserved_type word.Name = Some property
reserved_type word.Is = Some relation
reserved_type word.Less = Some relation
reserved_type word.Print = Some property
reserved_type word.Beta = Some application
reserved_type word.Suspend = Some suspension
reserved_type word.Nil = Some (list A)
reserved_type word.Cons = Some cell
reserved_type word.Plus = Some operation
reserved_type word.Minus = Some operation
reserved_type word.Times = Some operation
reserved_type word.Nonvar = None
reserved_type word.Distinct = None
