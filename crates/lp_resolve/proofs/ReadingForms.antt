-- The readings and the texts of parsed terms, form by form.
use Rattle.std.proofs.Common.{◌≡◌, ◌∙◌, ℕ, ℤ, Bool, List, [], ◌∷◌, ◌++◌, Option, Some, None, map, refl, ap, sym, append-nil, append_assoc}
use Rattle.std.specs.Prelude.{flat_map}
use Rattle.std.specs.Option.{option_map}
use Rattle.lp_parser.specs.declared.ast.Place.{Place}
use Rattle.lp_parser.specs.declared.ast.WordKind.{WordKind}
use Rattle.lp_parser.specs.declared.ast.Operator.{Operator}
use Rattle.lp_parser.specs.declared.ast.AstTerm.{AstTerm, fold-AstTerm, fold-roll-AstTerm}
use Rattle.lp_parser.specs.declared.ast.AstTerm.TheVariants.{Word, Int, Str, App, Bind, Op, Quant, List as Listed, rolls-Word, rolls-Int, rolls-Str, rolls-App, rolls-Bind, rolls-Op, rolls-Quant, rolls-List}
use Rattle.lp_parser.specs.declared.ast.AstTerm.TheOpen.{AstTerm-F}
use Rattle.ref_terms.specs.terms.Term as term
use Rattle.lp_resolve.specs.Symbols.{number_of, interned, interned_all, Begins}
use Rattle.lp_resolve.specs.Texts.{texts_of, texts_at, texts_of_tail}
use Rattle.lp_resolve.specs.Reading.{Reader, reading, reading_at, word, constant, application, abstraction, reserved, operator_name, quantifier_name, listing, tail_of}

-- a word
pub reads-word : (table : List (List ℕ)) (k : WordKind) (text : List ℕ) (p : Place) → reading table (Word k text p) ≡ word k (number_of table text) p
reads-word table k text p = ap (reading table) (sym (rolls-Word k text p)) ∙ fold-roll-AstTerm Reader (reading_at table) (AstTerm-F.Word k text p)

-- an integer
pub reads-int : (table : List (List ℕ)) (z : ℤ) (p : Place) → reading table (Int z p) ≡ constant (term.At (term.Int z))
reads-int table z p = ap (reading table) (sym (rolls-Int z p)) ∙ fold-roll-AstTerm Reader (reading_at table) (AstTerm-F.Int z p)

-- a string
pub reads-str : (table : List (List ℕ)) (text : List ℕ) (p : Place) → reading table (Str text p) ≡ constant (term.At (term.Str (number_of table text)))
reads-str table text p = ap (reading table) (sym (rolls-Str text p)) ∙ fold-roll-AstTerm Reader (reading_at table) (AstTerm-F.Str text p)

-- an application
pub reads-app : (table : List (List ℕ)) (h : AstTerm) (ts : List AstTerm) → reading table (App h ts) ≡ application (reading table h) (map (reading table) ts)
reads-app table h ts = ap (reading table) (sym (rolls-App h ts)) ∙ fold-roll-AstTerm Reader (reading_at table) (AstTerm-F.App h ts)

-- an abstraction
pub reads-bind : (table : List (List ℕ)) (text : List ℕ) (p : Place) (b : AstTerm) → reading table (Bind text p b) ≡ abstraction (number_of table text) (reading table b)
reads-bind table text p b = ap (reading table) (sym (rolls-Bind text p b)) ∙ fold-roll-AstTerm Reader (reading_at table) (AstTerm-F.Bind text p b)

-- an operator
pub reads-op : (table : List (List ℕ)) (o : Operator) (p : Place) (l r : AstTerm) → reading table (Op o p l r) ≡ application (constant (reserved (operator_name o))) (reading table l ∷ reading table r ∷ [])
reads-op table o p l r = ap (reading table) (sym (rolls-Op o p l r)) ∙ fold-roll-AstTerm Reader (reading_at table) (AstTerm-F.Op o p l r)

-- a quantifier
pub reads-quant : (table : List (List ℕ)) (u : Bool) (p : Place) (b : AstTerm) → reading table (Quant u p b) ≡ application (constant (reserved (quantifier_name u))) (reading table b ∷ [])
reads-quant table u p b = ap (reading table) (sym (rolls-Quant u p b)) ∙ fold-roll-AstTerm Reader (reading_at table) (AstTerm-F.Quant u p b)

-- a list
pub reads-list : (table : List (List ℕ)) (p : Place) (es : List AstTerm) (t : Option AstTerm) → reading table (Listed p es t) ≡ listing (map (reading table) es) (tail_of (option_map (reading table) t))
reads-list table p es None = ap (reading table) (sym (rolls-List p es None)) ∙ fold-roll-AstTerm Reader (reading_at table) (AstTerm-F.List p es None)
reads-list table p es (Some t) = ap (reading table) (sym (rolls-List p es (Some t))) ∙ fold-roll-AstTerm Reader (reading_at table) (AstTerm-F.List p es (Some t))

-- a list of lists of images
pub flat-images : {A B : Type 0} (f : A → List B) (xs : List A) → flat_map (λ (ys : List B). ys) (map f xs) ≡ flat_map f xs
flat-images f [] = refl
flat-images f (x ∷ xs) = ap (λ (ys : List _). f x ++ ys) (flat-images f xs)

-- the texts of a word
pub texts-word : (k : WordKind) (text : List ℕ) (p : Place) → texts_of (Word k text p) ≡ text ∷ []
texts-word k text p = ap texts_of (sym (rolls-Word k text p)) ∙ fold-roll-AstTerm (List (List ℕ)) texts_at (AstTerm-F.Word k text p)

-- of an integer
pub texts-int : (z : ℤ) (p : Place) → texts_of (Int z p) ≡ []
texts-int z p = ap texts_of (sym (rolls-Int z p)) ∙ fold-roll-AstTerm (List (List ℕ)) texts_at (AstTerm-F.Int z p)

-- of a string
pub texts-str : (text : List ℕ) (p : Place) → texts_of (Str text p) ≡ text ∷ []
texts-str text p = ap texts_of (sym (rolls-Str text p)) ∙ fold-roll-AstTerm (List (List ℕ)) texts_at (AstTerm-F.Str text p)

-- of an application
pub texts-app : (h : AstTerm) (ts : List AstTerm) → texts_of (App h ts) ≡ texts_of h ++ flat_map texts_of ts
texts-app h ts = ap texts_of (sym (rolls-App h ts)) ∙ fold-roll-AstTerm (List (List ℕ)) texts_at (AstTerm-F.App h ts) ∙ ap (λ xs. texts_of h ++ xs) (flat-images texts_of ts)

-- of an abstraction
pub texts-bind : (text : List ℕ) (p : Place) (b : AstTerm) → texts_of (Bind text p b) ≡ text ∷ texts_of b
texts-bind text p b = ap texts_of (sym (rolls-Bind text p b)) ∙ fold-roll-AstTerm (List (List ℕ)) texts_at (AstTerm-F.Bind text p b)

-- of an operator
pub texts-op : (o : Operator) (p : Place) (l r : AstTerm) → texts_of (Op o p l r) ≡ texts_of l ++ texts_of r
texts-op o p l r = ap texts_of (sym (rolls-Op o p l r)) ∙ fold-roll-AstTerm (List (List ℕ)) texts_at (AstTerm-F.Op o p l r)

-- of a quantifier
pub texts-quant : (u : Bool) (p : Place) (b : AstTerm) → texts_of (Quant u p b) ≡ texts_of b
texts-quant u p b = ap texts_of (sym (rolls-Quant u p b)) ∙ fold-roll-AstTerm (List (List ℕ)) texts_at (AstTerm-F.Quant u p b)

-- of a list
pub texts-list : (p : Place) (es : List AstTerm) (t : Option AstTerm) → texts_of (Listed p es t) ≡ flat_map texts_of es ++ texts_of_tail (option_map texts_of t)
texts-list p es None = ap texts_of (sym (rolls-List p es None)) ∙ fold-roll-AstTerm (List (List ℕ)) texts_at (AstTerm-F.List p es None) ∙ ap (λ xs. xs ++ []) (flat-images texts_of es)
texts-list p es (Some t) = ap texts_of (sym (rolls-List p es (Some t))) ∙ fold-roll-AstTerm (List (List ℕ)) texts_at (AstTerm-F.List p es (Some t)) ∙ ap (λ xs. xs ++ texts_of t) (flat-images texts_of es)

-- texts that are interned in two parts
pub interned-append : (table : List (List ℕ)) (xs ys : List (List ℕ)) → interned_all table (xs ++ ys) ≡ interned_all (interned_all table xs) ys
interned-append table [] ys = refl
interned-append table (x ∷ xs) ys = interned-append (interned table x) xs ys

-- a list that begins with itself
pub begins-same : {A : Type 0} (xs : List A) → Begins xs xs
begins-same xs = record { more = []; is = sym (append-nil xs) }

-- a list that begins with one that begins with another one
pub begins-twice : {A : Type 0} (xs ys zs : List A) → Begins xs ys → Begins ys zs → Begins xs zs
begins-twice xs ys zs a b = record { more = a.more ++ b.more; is = b.is ∙ ap (λ us. us ++ b.more) a.is ∙ append_assoc xs a.more b.more }
