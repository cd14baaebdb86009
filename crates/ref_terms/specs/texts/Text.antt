-- Printed forms of terms.
use Rattle.std.specs.Prelude.{ℕ, suc, ◌-◌, Bool, true, false, cond, nat_eq, List, [], ◌∷◌, ◌++◌, flat_map, Option, Some, None, slice_get, unwrap_or, decimal}
use Rattle.std.specs.Fmt.{signed_decimal}
use Rattle.ref_terms.specs.terms.Term.{Term, Lam, At, App, Head, Con, Int, Str, Name, Bound, Var}
use Rattle.ref_terms.specs.search.Reserved.{Reserved, And_word, Or_word, Implies_word, If_word, Equal_word, Is_word, Cons_word, Plus_word, Minus_word, Times_word, word_of}

-- a part of a text: bytes, or a variable whose number comes from its place in the whole text
pub data Part : Type 0 where
  Bytes : List ℕ → Part
  Free : ℕ → Part

-- the text of a symbol
abbrev pub symbol : List (List ℕ) → ℕ → List ℕ
symbol table c = unwrap_or (slice_get table c) []

-- a byte of a string
abbrev pub escaped : ℕ → List ℕ
escaped b = cond (nat_eq b 10) (92 ∷ 110 ∷ []) (cond (nat_eq b 9) (92 ∷ 116 ∷ []) (cond (nat_eq b 92) (92 ∷ 92 ∷ []) (cond (nat_eq b 34) (92 ∷ 34 ∷ []) (b ∷ []))))

-- the text of a head below so many abstractions
abbrev pub head_text : List (List ℕ) → (depth : ℕ) → Head → Part
head_text table depth (Con c) = Bytes (symbol table c)
head_text table depth (Int z) = Bytes (signed_decimal z)
head_text table depth (Str s) = Bytes (34 ∷ flat_map escaped (symbol table s) ++ 34 ∷ [])
head_text table depth (Name n) = Bytes (35 ∷ decimal n)
head_text table depth (Bound i) = Bytes (64 ∷ decimal (depth - suc i))
head_text table depth (Var v) = Free v

-- the constants that are printed between two arguments
abbrev pub infix_word : Option Reserved → Bool
infix_word (Some And_word) = true
infix_word (Some Or_word) = true
infix_word (Some Implies_word) = true
infix_word (Some If_word) = true
infix_word (Some Equal_word) = true
infix_word (Some Is_word) = true
infix_word (Some Cons_word) = true
infix_word (Some Plus_word) = true
infix_word (Some Minus_word) = true
infix_word (Some Times_word) = true
infix_word _ = false

-- the infix constant that is applied to one argument here
abbrev pub infix_of : Term → Option ℕ
infix_of (App (At (Con c)) a) = cond (infix_word (word_of c)) (Some c) None
infix_of _ = None

-- the form of a term by its place
pub data Form : Type 0 where
  top inner : Form
  -- before one more argument
  front : Form
  -- before an infix constant, which is applied to its left operand here
  left : Form

-- in round brackets
abbrev pub bracketed : List Part → List Part
bracketed ps = Bytes (40 ∷ []) ∷ ps ++ Bytes (41 ∷ []) ∷ []

-- `@d\ `
abbrev pub binder : ℕ → Part
binder depth = Bytes (64 ∷ decimal depth ++ 92 ∷ 32 ∷ [])

-- one space
abbrev pub space : Part
space = Bytes (32 ∷ [])

-- an abstraction stands in brackets but at the top
abbrev pub abstraction_form : Form → List Part → List Part
abstraction_form top ps = ps
abstraction_form _ ps = bracketed ps

-- the text of a term below so many abstractions
abbrev pub term_parts : List (List ℕ) → Term → Form → (depth : ℕ) → List Part
term_parts table (Lam b) form depth = abstraction_form form (binder depth ∷ term_parts table b top (suc depth))
term_parts table (At h) form depth = head_text table depth h ∷ []
term_parts table (App f a) form depth = elim form [
  | top ↦ elim (infix_of f) [ None ↦ term_parts table f front depth ++ space ∷ term_parts table a inner depth | Some c ↦ term_parts table f left depth ++ space ∷ Bytes (symbol table c) ∷ space ∷ term_parts table a inner depth ]
  | inner ↦ bracketed (elim (infix_of f) [ None ↦ term_parts table f front depth ++ space ∷ term_parts table a inner depth | Some c ↦ term_parts table f left depth ++ space ∷ Bytes (symbol table c) ∷ space ∷ term_parts table a inner depth ])
  | front ↦ term_parts table f front depth ++ space ∷ term_parts table a inner depth
  | left ↦ term_parts table a inner depth
]
