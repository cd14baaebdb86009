-- The grammar of terms. Each relation goes from one list of lexemes to what is left of it behind the phrase.
use Rattle.std.specs.Prelude.{ℕ, ◌≤◌, Bool, List, [], ◌∷◌, ◌++◌, Some, None}
use Rattle.lp_parser.specs.declared.ast.Place.{Place}
use Rattle.lp_parser.specs.declared.ast.WordKind.{WordKind}
use Rattle.lp_parser.specs.declared.ast.WordKind.TheVariants as word_kind
use Rattle.lp_parser.specs.declared.ast.Word.{Word}
use Rattle.lp_parser.specs.declared.ast.Operator.{Operator}
use Rattle.lp_parser.specs.declared.ast.Operator.TheVariants.{Implied, Or, Comma, Implies, Equal, Is, Cons, Plus, Minus, Times}
use Rattle.lp_parser.specs.declared.ast.AstTerm.{AstTerm}
use Rattle.lp_parser.specs.declared.ast.AstTerm.TheVariants as term
use Rattle.lp_parser.specs.declared.lexeme.Literal.{Literal}
use Rattle.lp_parser.specs.declared.lexeme.Literal.TheVariants as literal
use Rattle.lp_parser.specs.declared.lexeme.Closer.TheVariants.{Round, Square, Bar}
use Rattle.lp_parser.specs.declared.lexeme.Lexeme.{Lexeme}
use Rattle.lp_parser.specs.declared.lexeme.Lexeme.TheVariants as lexeme

-- The level of a phrase with the operator; a phrase of a higher level binds tighter, and one of each level may be one of the level below:
--   T1 := T2 ':-' T2      T4 := T5 '=>' T4                  T7 := T7 '+' T8 | T7 '-' T8
--   T2 := T3 ';' T2       T5 := T6 '=' T6 | T6 'is' T6      T8 := T8 '*' T9
--   T3 := T4 ',' T3       T6 := T7 '::' T6
abbrev pub level : Operator → ℕ
level Implied = 1
level Or = 2
level Comma = 3
level Implies = 4
level Equal = 5
level Is = 5
level Cons = 6
level Plus = 7
level Minus = 7
level Times = 8

-- the level of its left side
abbrev pub left_level : Operator → ℕ
left_level Implied = 2
left_level Or = 3
left_level Comma = 4
left_level Implies = 5
left_level Equal = 6
left_level Is = 6
left_level Cons = 7
left_level Plus = 7
left_level Minus = 7
left_level Times = 8

-- the level of its right side
abbrev pub right_level : Operator → ℕ
right_level Implied = 2
right_level Or = 2
right_level Comma = 3
right_level Implies = 4
right_level Equal = 6
right_level Is = 6
right_level Cons = 6
right_level Plus = 8
right_level Minus = 8
right_level Times = 9

-- Whether the last lexeme of a phrase belongs to the body of a binder that no bracket of the phrase encloses.
pub data Shape : Type 0 where
  Closed : Shape
  Open : Shape

-- the term of a literal
abbrev pub literal_term : Literal → Place → AstTerm
literal_term (literal.Int n) p = term.Int n p
literal_term (literal.Str x) p = term.Str x p
literal_term literal.Cut p = term.Word word_kind.Name (33 ∷ []) p

-- the body under a quantifier for each of the words: pi x y\ t is pi (x\ pi (y\ t))
abbrev pub quantified : Bool → Place → List Word → AstTerm → AstTerm
quantified q p [] t = t
quantified q p (x ∷ xs) t = term.Quant q p (term.Bind x.text x.place (quantified q p xs t))

-- Bind+
pub data Words : List Lexeme → List Lexeme → List Word → Type 0 where
  last_word : {v : List Lexeme} (k : WordKind) (x : List ℕ) (p : Place) → Words (lexeme.Word k x p ∷ v) v (record { text = x; place = p } ∷ [])
  word_and : {u v : List Lexeme} {xs : List Word} (k : WordKind) (x : List ℕ) (p : Place)
      → Words u v xs → Words (lexeme.Word k x p ∷ u) v (record { text = x; place = p } ∷ xs)

mutual
  -- Phrase k s u v t: the lexemes from u up to v are a phrase of level k and shape s, which reads as t.
  pub data Phrase : ℕ → Shape → List Lexeme → List Lexeme → AstTerm → Type 0 where
    tighter : {j k : ℕ} {s : Shape} {u v : List Lexeme} {t : AstTerm} → j ≤ k → Phrase k s u v t → Phrase j s u v t
    infix_of : {s : Shape} {u v w : List Lexeme} {a b : AstTerm} (o : Operator) (p : Place)
        → Phrase (left_level o) Closed u (lexeme.Infix o p ∷ v) a → Phrase (right_level o) s v w b
        → Phrase (level o) s u w (term.Op o p a b)
    alone : {u v : List Lexeme} {t : AstTerm} → Atom u v t → Phrase 9 Closed u v t
    applied : {u v w : List Lexeme} {h t : AstTerm} {ts : List AstTerm}
        → Simple u v h → Atoms v w (t ∷ ts) → Phrase 9 Closed u w (term.App h (t ∷ ts))
    applied_binder : {u v w x : List Lexeme} {h b : AstTerm} {ts : List AstTerm}
        → Simple u v h → Atoms v w ts → Binder w x b → Phrase 9 Open u x (term.App h (ts ++ b ∷ []))
    binder : {u v : List Lexeme} {b : AstTerm} → Binder u v b → Phrase 9 Open u v b
    quantifier_of : {u v : List Lexeme} {t : AstTerm} (q : Bool) (p : Place)
        → Atom u v t → Phrase 9 Closed (lexeme.Quantifier q p ∷ u) v (term.Quant q p t)
    quantifier_body : {s : Shape} {u v w : List Lexeme} {xs : List Word} {t : AstTerm} (q : Bool) (p l : Place)
        → Words u (lexeme.Lambda l ∷ v) xs → Phrase 1 s v w t → Phrase 9 Open (lexeme.Quantifier q p ∷ u) w (quantified q p xs t)

  -- a word and its body
  pub data Binder : List Lexeme → List Lexeme → AstTerm → Type 0 where
    binds : {s : Shape} {v w : List Lexeme} {t : AstTerm} (k : WordKind) (x : List ℕ) (p l : Place)
        → Phrase 1 s v w t → Binder (lexeme.Word k x p ∷ lexeme.Lambda l ∷ v) w (term.Bind x p t)

  -- what may be the head of an application: a word, or a phrase in brackets
  pub data Simple : List Lexeme → List Lexeme → AstTerm → Type 0 where
    word : {v : List Lexeme} (k : WordKind) (x : List ℕ) (p : Place) → Simple (lexeme.Word k x p ∷ v) v (term.Word k x p)
    group : {s : Shape} {u v : List Lexeme} {t : AstTerm} (p r : Place)
        → Phrase 1 s u (lexeme.Closer Round r ∷ v) t → Simple (lexeme.OpenRound p ∷ u) v t

  -- what may be an argument
  pub data Atom : List Lexeme → List Lexeme → AstTerm → Type 0 where
    simple : {u v : List Lexeme} {t : AstTerm} → Simple u v t → Atom u v t
    literal_of : {v : List Lexeme} (n : Literal) (p : Place) → Atom (lexeme.Literal n p ∷ v) v (literal_term n p)
    empty_list : {v : List Lexeme} (p r : Place) → Atom (lexeme.OpenSquare p ∷ lexeme.Closer Square r ∷ v) v (term.List p [] None)
    list_of : {u v : List Lexeme} {ts : List AstTerm} (p r : Place)
        → Elements u (lexeme.Closer Square r ∷ v) ts → Atom (lexeme.OpenSquare p ∷ u) v (term.List p ts None)
    list_with_tail : {s : Shape} {u v w : List Lexeme} {t : AstTerm} {ts : List AstTerm} (p b r : Place)
        → Elements u (lexeme.Closer Bar b ∷ v) ts → Phrase 4 s v (lexeme.Closer Square r ∷ w) t
        → Atom (lexeme.OpenSquare p ∷ u) w (term.List p ts (Some t))

  -- Elem (',' Elem)*, where an element before a comma is closed
  pub data Elements : List Lexeme → List Lexeme → List AstTerm → Type 0 where
    last_element : {s : Shape} {u v : List Lexeme} {t : AstTerm} → Phrase 4 s u v t → Elements u v (t ∷ [])
    element_and : {u v w : List Lexeme} {t : AstTerm} {ts : List AstTerm} (c : Place)
        → Phrase 4 Closed u (lexeme.Infix Comma c ∷ v) t → Elements v w ts → Elements u w (t ∷ ts)

  -- any number of arguments
  pub data Atoms : List Lexeme → List Lexeme → List AstTerm → Type 0 where
    no_atom : {u : List Lexeme} → Atoms u u []
    atom_and : {u v w : List Lexeme} {t : AstTerm} {ts : List AstTerm} → Atom u v t → Atoms v w ts → Atoms u w (t ∷ ts)
