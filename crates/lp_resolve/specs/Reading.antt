-- What the parser's terms are read as.
use Rattle.std.specs.Prelude.{ℕ, ℤ, Bool, nat_eq, List, [], ◌∷◌, length, Option, Some, None, codes, position, if◌then◌else◌}
use Rattle.lp_parser.specs.declared.ast.Place.{Place}
use Rattle.lp_parser.specs.declared.ast.WordKind.{WordKind}
use Rattle.lp_parser.specs.declared.ast.WordKind.TheVariants.{Name, Var as Variable, Hole}
use Rattle.lp_parser.specs.declared.ast.Operator.{Operator}
use Rattle.lp_parser.specs.declared.ast.Operator.TheVariants.{Implied, Or, Comma, Implies, Equal, Is, Cons, Plus, Minus, Times}
use Rattle.lp_parser.specs.declared.ast.AstTerm.{AstTerm, fold-AstTerm}
use Rattle.lp_parser.specs.declared.ast.AstTerm.TheOpen.{AstTerm-F}
use Rattle.ref_terms.specs.terms.Term.{Term, At, App, Con, Int, Str, Bound, Var}
use Rattle.ref_terms.specs.terms.Eta.{lam}
use Rattle.ref_terms.specs.terms.Text.{text_apply_all}
use Rattle.lp_resolve.specs.Symbols.{reserved_names, number_of}
use Rattle.lp_resolve.specs.Variables.{Met, number_in, met_word, met_hole}

-- a term, and the variables that were met up to its end
pub record Reading : Type 0 where
  pub term : Term
  pub met : Met

-- terms, and the variables that were met up to the end of the last
pub record Readings : Type 0 where
  pub terms : List Term
  pub met : Met

-- what a term is read as, by the words that are bound around it, innermost first, and the variables that were met before it
abbrev pub Reader : Type 0
Reader = (scope : List ℕ) → (met : Met) → Reading

-- a term that has no variable and no bound name
abbrev pub constant : Term → Reader
constant term scope met = record { term = term; met = met }

-- how many abstractions stand between a word and the nearest one that binds it, if any does; none binds a hole
abbrev pub binder_of : WordKind → (word : ℕ) → (scope : List ℕ) → Option ℕ
binder_of Name word scope = position (nat_eq word) scope
binder_of Variable word scope = position (nat_eq word) scope
binder_of Hole word scope = None

-- a word that isn't bound: a name is a constant, a variable is one of the clause, and a hole is a new one
abbrev pub free_word : WordKind → (word : ℕ) → Place → (met : Met) → Reading
free_word Name word place met = record { term = At (Con word); met = met }
free_word Variable word place met = record { term = At (Var (number_in met.names word)); met = met_word word place met }
free_word Hole word place met = record { term = At (Var (length met.names)); met = met_hole word place met }

-- a word, where its binder is known
abbrev pub word_by : Option ℕ → WordKind → (word : ℕ) → Place → (met : Met) → Reading
word_by (Some index) kind word place met = record { term = At (Bound index); met = met }
word_by None kind word place met = free_word kind word place met

-- a word at its place
abbrev pub word : WordKind → (word : ℕ) → Place → Reader
word kind w place scope met = word_by (binder_of kind w scope) kind w place met

-- terms one after another
abbrev pub read_all : List Reader → (scope : List ℕ) → (met : Met) → Readings
read_all [] scope met = record { terms = []; met = met }
read_all (r ∷ rs) scope met =
    let first = r scope met in
    let rest = read_all rs scope first.met in
    record { terms = first.term ∷ rest.terms; met = rest.met }

-- a term applied to terms, from the left
abbrev pub application : Reader → List Reader → Reader
application function arguments scope met =
    let f = function scope met in
    let rest = read_all arguments scope f.met in
    record { term = text_apply_all f.term rest.terms; met = rest.met }

-- the abstraction of a body over a word
abbrev pub abstraction : (word : ℕ) → Reader → Reader
abstraction w body scope met =
    let b = body (w ∷ scope) met in
    record { term = lam b.term; met = b.met }

-- a reserved name as a term
abbrev pub reserved : List ℕ → Term
reserved name = At (Con (number_of reserved_names name))

-- how the constant of an operator is written
abbrev pub operator_name : Operator → List ℕ
operator_name Implied = codes ":-"
operator_name Or = codes ";"
operator_name Comma = codes ","
operator_name Implies = codes "=>"
operator_name Equal = codes "="
operator_name Is = codes "is"
operator_name Cons = codes "::"
operator_name Plus = codes "+"
operator_name Minus = codes "-"
operator_name Times = codes "*"

-- how the constant of a quantifier is written
abbrev pub quantifier_name : (universal : Bool) → List ℕ
quantifier_name universal = if universal then codes "pi" else codes "sigma"

-- a list of these elements before a tail
abbrev pub list_term : List Term → (tail : Term) → Term
list_term [] tail = tail
list_term (element ∷ elements) tail = App (App (reserved (codes "::")) element) (list_term elements tail)

-- the tail of a list, which is `[]` where none is written
abbrev pub tail_of : Option Reader → Reader
tail_of None = constant (reserved (codes "[]"))
tail_of (Some tail) = tail

-- a list, from its elements and its tail
abbrev pub listing : List Reader → Reader → Reader
listing elements tail scope met =
    let first = read_all elements scope met in
    let last = tail scope first.met in
    record { term = list_term first.terms last.term; met = last.met }

-- one layer of a term, over the table of the symbols' texts
abbrev pub reading_at : (table : List (List ℕ)) → AstTerm-F Reader → Reader
reading_at table (AstTerm-F.Word kind text place) = word kind (number_of table text) place
reading_at table (AstTerm-F.Int value place) = constant (At (Int value))
reading_at table (AstTerm-F.Str text place) = constant (At (Str (number_of table text)))
reading_at table (AstTerm-F.App head arguments) = application head arguments
reading_at table (AstTerm-F.Bind text place body) = abstraction (number_of table text) body
reading_at table (AstTerm-F.Op operator place left right) = application (constant (reserved (operator_name operator))) (left ∷ right ∷ [])
reading_at table (AstTerm-F.Quant universal place body) = application (constant (reserved (quantifier_name universal))) (body ∷ [])
reading_at table (AstTerm-F.List place elements tail) = listing elements (tail_of tail)

-- what a term is read as
abbrev pub reading : (table : List (List ℕ)) → AstTerm → Reader
reading table = fold-AstTerm Reader (reading_at table)
