-- Reading term by term.
use Rattle.std.proofs.Common.{◌≡◌, ◌∙◌, ℕ, zero, suc, ◌+◌, ◌<◌, ◌≤◌, Bool, true, false, not, cond, List, [], ◌∷◌, ◌++◌, Option, Some, None, length, map, drop, get_or, refl, ap, sym, subst, append_assoc, append-nil, drop-cons, add-one, arith}
use Rattle.std.specs.Prelude.{IsTrue, flat_map, codes}
use Rattle.std.specs.List.{position_or_len}
use Rattle.std.specs.Str.{bytes_eq}
use Rattle.std.proofs.lemmas.List.{map-append}
use Rattle.std.specs.Option.{option_map}
use Rattle.lp_parser.specs.declared.ast.Place.{Place}
use Rattle.lp_parser.specs.declared.ast.WordKind.{WordKind}
use Rattle.lp_parser.specs.declared.ast.Operator.{Operator}
use Rattle.lp_parser.specs.declared.ast.AstTerm.{AstTerm}
use Rattle.lp_parser.specs.declared.ast.AstTerm.TheVariants.{Word, Str, App, Bind, Op, Quant, List as Listed}
use Rattle.ref_terms.specs.terms.Term as term
use Rattle.ref_terms.specs.terms.Term.{Term}
use Rattle.ref_terms.specs.terms.Text.{text_apply_all}
use Rattle.ref_terms.specs.terms.Eta.{lam}
use Rattle.ref_terms.specs.declared.tree.Tree.{Tree}
use Rattle.lp_resolve.specs.Symbols.{number_of, interned, interned_all, Begins}
use Rattle.lp_resolve.specs.Texts.{texts_of, texts_of_tail}
use Rattle.lp_resolve.specs.Variables.{Met}
use Rattle.lp_resolve.specs.Trees.{as_term, shape, all_fit}
use Rattle.lp_resolve.specs.Reading.{Reading, Readings, Reader, read_all, reading, word, constant, application, abstraction, listing, tail_of, list_term, reserved, operator_name, quantifier_name}
use Rattle.lp_resolve.specs.Reads.{IsReadBy, IsRead, AreRead}
use Rattle.lp_resolve.proofs.ReadingForms.{interned-append, begins-twice, reads-word, reads-str, reads-app, reads-bind, reads-op, reads-quant, reads-list, texts-app, texts-op, texts-list}

-- readings after terms that were read before
abbrev pub after_terms : List Term → Readings → Readings
after_terms ts r = record { terms = ts ++ r.terms; met = r.met }

-- a number stays in each later table
pub number-stays : {A : Type 0} (p : A → Bool) (xs ys : List A) → position_or_len p xs < length xs → position_or_len p (xs ++ ys) ≡ position_or_len p xs
number-stays p [] ys h = absurd (omega arith)
number-stays p (x ∷ xs) ys h = at (p x) (position_or_len p (xs ++ ys)) (position_or_len p xs) h (number-stays p xs ys) where
  at : (t : Bool) (n m : ℕ) → cond (not t) (1 + m) 0 < suc (length xs) → (m < length xs → n ≡ m) → cond (not t) (1 + n) 0 ≡ cond (not t) (1 + m) 0
  at true n m h rest = refl
  at false n m h rest = ap (λ k. 1 + k) (rest (omega arith))

-- so for a text
pub number-later : (table later : List (List ℕ)) (text : List ℕ) (w : ℕ) → w ≡ number_of table text → w < length table → Begins table later → number_of later text ≡ w
number-later table later text w e within b =
    let small : number_of table text < length table = omega (arith, e, within) in
    ap (λ t. number_of t text) b.is ∙ number-stays (bytes_eq text) table b.more small ∙ sym e

-- a word
pub read-word : (table : List (List ℕ)) (scope : List ℕ) (met after : Met) (t : AstTerm) (k : WordKind) (text : List ℕ) (p : Place) (w : ℕ) (a : Term) (tree : Tree)
    → t ≡ Word k text p → w ≡ number_of table text → w < length table → word k w p scope met ≡ record { term = a; met = after } → as_term tree ≡ a → IsTrue (shape tree).fits
    → IsRead table scope met t after tree
read-word table scope met after t k text p w a tree is number within e same fits = record {
  fits = fits;
  reads = λ later b. ap (λ (u : AstTerm). reading later u scope met) is ∙ ap (λ (r : Reader). r scope met) (reads-word later k text p)
      ∙ ap (λ (n : ℕ). word k n p scope met) (number-later table later text w number within b) ∙ e ∙ ap (λ (x : Term). record { term = x; met = after }) (sym same);
}

-- a string
pub read-str : (table : List (List ℕ)) (scope : List ℕ) (met : Met) (t : AstTerm) (text : List ℕ) (p : Place) (w : ℕ) (tree : Tree)
    → t ≡ Str text p → w ≡ number_of table text → w < length table → as_term tree ≡ term.At (term.Str w) → IsTrue (shape tree).fits
    → IsRead table scope met t met tree
read-str table scope met t text p w tree is number within same fits = record {
  fits = fits;
  reads = λ later b. ap (λ (u : AstTerm). reading later u scope met) is ∙ ap (λ (r : Reader). r scope met) (reads-str later text p)
      ∙ ap (λ (n : ℕ). record { term = term.At (term.Str n); met = met }) (number-later table later text w number within b) ∙ ap (λ (x : Term). record { term = x; met = met }) (sym same);
}

-- an application
pub read-app : (table last : List (List ℕ)) (scope : List ℕ) (met between after : Met) (t h : AstTerm) (ts : List AstTerm) (f : Tree) (trees : List Tree) (tree : Tree)
    → t ≡ App h ts → IsRead table scope met h between f → Begins table last → AreRead last scope between ts after trees
    → as_term tree ≡ text_apply_all (as_term f) (map as_term trees) → IsTrue (shape tree).fits
    → IsRead last scope met t after tree
read-app table last scope met between after t h ts f trees tree is head grows rest same fits = record {
  fits = fits;
  reads = λ later b. ap (λ (u : AstTerm). reading later u scope met) is ∙ ap (λ (r : Reader). r scope met) (reads-app later h ts)
      ∙ ap (λ (first : Reading). application (constant first.term) (map (reading later) ts) scope first.met) (head.reads later (begins-twice table last later grows b))
      ∙ ap (λ (r : Readings). record { term = text_apply_all (as_term f) r.terms; met = r.met }) (rest.reads later b)
      ∙ ap (λ (x : Term). record { term = x; met = after }) (sym same);
}

-- an abstraction
pub read-bind : (table last : List (List ℕ)) (scope : List ℕ) (met after : Met) (t b : AstTerm) (text : List ℕ) (p : Place) (w : ℕ) (body tree : Tree)
    → t ≡ Bind text p b → w ≡ number_of table text → w < length table → Begins table last → IsRead last (w ∷ scope) met b after body
    → as_term tree ≡ lam (as_term body) → IsTrue (shape tree).fits → IsRead last scope met t after tree
read-bind table last scope met after t b text p w body tree is number within grows inside same fits = record {
  fits = fits;
  reads = λ later l. ap (λ (u : AstTerm). reading later u scope met) is ∙ ap (λ (r : Reader). r scope met) (reads-bind later text p b)
      ∙ ap (λ (n : ℕ). abstraction n (reading later b) scope met) (number-later table later text w number within (begins-twice table last later grows l))
      ∙ ap (λ (r : Reading). record { term = lam r.term; met = r.met }) (inside.reads later l) ∙ ap (λ (x : Term). record { term = x; met = after }) (sym same);
}

-- an operator
pub read-op : (table last : List (List ℕ)) (scope : List ℕ) (met between after : Met) (t l r : AstTerm) (o : Operator) (p : Place) (c : ℕ) (left right tree : Tree)
    → t ≡ Op o p l r → IsRead table scope met l between left → Begins table last → IsRead last scope between r after right
    → term.At (term.Con c) ≡ reserved (operator_name o) → as_term tree ≡ term.App (term.App (term.At (term.Con c)) (as_term left)) (as_term right) → IsTrue (shape tree).fits
    → IsRead last scope met t after tree
read-op table last scope met between after t l r o p c left right tree is first grows second con same fits = record {
  fits = fits;
  reads = λ later b. ap (λ (u : AstTerm). reading later u scope met) is ∙ ap (λ (q : Reader). q scope met) (reads-op later o p l r)
      ∙ ap (λ (f : Reading). record { term = term.App (term.App (reserved (operator_name o)) f.term) (reading later r scope f.met).term; met = (reading later r scope f.met).met }) (first.reads later (begins-twice table last later grows b))
      ∙ ap (λ (s : Reading). record { term = term.App (term.App (reserved (operator_name o)) (as_term left)) s.term; met = s.met }) (second.reads later b)
      ∙ ap (λ (x : Term). record { term = term.App (term.App x (as_term left)) (as_term right); met = after }) (sym con) ∙ ap (λ (x : Term). record { term = x; met = after }) (sym same);
}

-- a quantifier
pub read-quant : (table : List (List ℕ)) (scope : List ℕ) (met after : Met) (t b : AstTerm) (u : Bool) (p : Place) (c : ℕ) (body tree : Tree)
    → t ≡ Quant u p b → IsRead table scope met b after body
    → term.At (term.Con c) ≡ reserved (quantifier_name u) → as_term tree ≡ term.App (term.At (term.Con c)) (as_term body) → IsTrue (shape tree).fits
    → IsRead table scope met t after tree
read-quant table scope met after t b u p c body tree is inside con same fits = record {
  fits = fits;
  reads = λ later l. ap (λ (v : AstTerm). reading later v scope met) is ∙ ap (λ (q : Reader). q scope met) (reads-quant later u p b)
      ∙ ap (λ (r : Reading). record { term = term.App (reserved (quantifier_name u)) r.term; met = r.met }) (inside.reads later l)
      ∙ ap (λ (x : Term). record { term = term.App x (as_term body); met = after }) (sym con) ∙ ap (λ (x : Term). record { term = x; met = after }) (sym same);
}

-- a list with a tail
pub read-tailed : (table last : List (List ℕ)) (scope : List ℕ) (met between after : Met) (t : AstTerm) (p : Place) (es : List AstTerm) (u : AstTerm) (trees : List Tree) (tail tree : Tree)
    → t ≡ Listed p es (Some u) → AreRead table scope met es between trees → Begins table last → IsRead last scope between u after tail
    → as_term tree ≡ list_term (map as_term trees) (as_term tail) → IsTrue (shape tree).fits
    → IsRead last scope met t after tree
read-tailed table last scope met between after t p es u trees tail tree is first grows second same fits = record {
  fits = fits;
  reads = λ later b. ap (λ (v : AstTerm). reading later v scope met) is ∙ ap (λ (q : Reader). q scope met) (reads-list later p es (Some u))
      ∙ ap (λ (f : Readings). record { term = list_term f.terms (reading later u scope f.met).term; met = (reading later u scope f.met).met }) (first.reads later (begins-twice table last later grows b))
      ∙ ap (λ (s : Reading). record { term = list_term (map as_term trees) s.term; met = s.met }) (second.reads later b)
      ∙ ap (λ (x : Term). record { term = x; met = after }) (sym same);
}

-- a list without a tail
pub read-untailed : (table : List (List ℕ)) (scope : List ℕ) (met after : Met) (t : AstTerm) (p : Place) (es : List AstTerm) (trees : List Tree) (tail : Term) (tree : Tree)
    → t ≡ Listed p es None → AreRead table scope met es after trees
    → tail ≡ reserved (codes "[]") → as_term tree ≡ list_term (map as_term trees) tail → IsTrue (shape tree).fits
    → IsRead table scope met t after tree
read-untailed table scope met after t p es trees tail tree is first nil same fits = record {
  fits = fits;
  reads = λ later b. ap (λ (v : AstTerm). reading later v scope met) is ∙ ap (λ (q : Reader). q scope met) (reads-list later p es None)
      ∙ ap (λ (f : Readings). record { term = list_term f.terms (reserved (codes "[]")); met = f.met }) (first.reads later b)
      ∙ ap (λ (x : Term). record { term = list_term (map as_term trees) x; met = after }) (sym nil) ∙ ap (λ (x : Term). record { term = x; met = after }) (sym same);
}

-- the rest of a list, from an index on
rest-is : {A : Type 0} (xs : List A) (i : ℕ) (x : A) → i < length xs → x ≡ get_or xs i x → drop i xs ≡ x ∷ drop (i + 1) xs
rest-is xs i x within is = drop-cons xs i x within ∙ rw (← is, add-one) refl

-- no rest
rest-none : {A : Type 0} (xs : List A) (i : ℕ) → length xs ≤ i → drop i xs ≡ []
rest-none [] zero h = refl
rest-none [] (suc i) h = refl
rest-none (x ∷ xs) zero h = absurd (omega arith)
rest-none (x ∷ xs) (suc i) h = rest-none xs i (omega arith)

-- one more term is read
pub step-read : (terms : List AstTerm) (i : ℕ) (x : AstTerm) → i < length terms → x ≡ get_or terms i x
    → (table new : List (List ℕ)) (scope first next : List ℕ) (met between after : Met) (trees pushed : List Tree) (tree : Tree)
    → ((later : List (List ℕ)) → Begins table later → after_terms (map as_term trees) (read_all (map (reading later) (drop i terms)) scope between) ≡ read_all (map (reading later) terms) first met)
    → Begins table new → IsRead new scope between x after tree → next ≡ scope → pushed ≡ trees ++ tree ∷ []
    → (later : List (List ℕ)) → Begins new later
    → after_terms (map as_term pushed) (read_all (map (reading later) (drop (i + 1) terms)) next after) ≡ read_all (map (reading later) terms) first met
step-read terms i x within is table new scope first next met between after trees pushed tree so grows read same last later b =
    let rest = map (reading later) (drop (i + 1) terms) in
    let images : map as_term pushed ≡ map as_term trees ++ as_term tree ∷ [] = ap (λ (ts : List Tree). map as_term ts) last ∙ map-append as_term trees (tree ∷ []) in
    ap (λ (s : List ℕ). after_terms (map as_term pushed) (read_all rest s after)) same
    ∙ ap (λ (ts : List Term). after_terms ts (read_all rest scope after)) images
    ∙ ap (λ (ts : List Term). record { terms = ts; met = (read_all rest scope after).met }) (append_assoc (map as_term trees) (as_term tree ∷ []) (read_all rest scope after).terms)
    ∙ sym (ap (λ (r : Reading). after_terms (map as_term trees) (record { terms = r.term ∷ (read_all rest scope r.met).terms; met = (read_all rest scope r.met).met })) (read.reads later b))
    ∙ sym (ap (λ (ts : List AstTerm). after_terms (map as_term trees) (read_all (map (reading later) ts) scope between)) (rest-is terms i x within is))
    ∙ so later (begins-twice table new later grows b)

-- all terms are read
pub all-read : (terms : List AstTerm) (i : ℕ) → length terms ≤ i
    → (table : List (List ℕ)) (scope first : List ℕ) (met after : Met) (trees : List Tree)
    → ((later : List (List ℕ)) → Begins table later → after_terms (map as_term trees) (read_all (map (reading later) (drop i terms)) scope after) ≡ read_all (map (reading later) terms) first met)
    → IsTrue (all_fit (map shape trees)) → AreRead table first met terms after trees
all-read terms i none table scope first met after trees so fit = record {
  fit = fit;
  reads = λ later b. sym (so later b) ∙ ap (λ (ts : List AstTerm). after_terms (map as_term trees) (read_all (map (reading later) ts) scope after)) (rest-none terms i none)
      ∙ ap (λ (ts : List Term). record { terms = ts; met = after }) (append-nil (map as_term trees));
}

-- the texts of one more term
pub step-texts : (terms : List AstTerm) (i : ℕ) (x : AstTerm) → i < length terms → x ≡ get_or terms i x → (first old new : List (List ℕ))
    → interned_all old (flat_map texts_of (drop i terms)) ≡ interned_all first (flat_map texts_of terms) → new ≡ interned_all old (texts_of x)
    → interned_all new (flat_map texts_of (drop (i + 1) terms)) ≡ interned_all first (flat_map texts_of terms)
step-texts terms i x within is first old new so e =
    ap (λ (t : List (List ℕ)). interned_all t (flat_map texts_of (drop (i + 1) terms))) e
    ∙ sym (interned-append old (texts_of x) (flat_map texts_of (drop (i + 1) terms)))
    ∙ sym (ap (λ (ts : List AstTerm). interned_all old (flat_map texts_of ts)) (rest-is terms i x within is)) ∙ so

-- the texts of an application
pub table-app : (old between new : List (List ℕ)) (t h : AstTerm) (ts : List AstTerm) → t ≡ App h ts → between ≡ interned_all old (texts_of h) → new ≡ interned_all between (flat_map texts_of ts)
    → new ≡ interned_all old (texts_of t)
table-app old between new t h ts is first second =
    second ∙ ap (λ (s : List (List ℕ)). interned_all s (flat_map texts_of ts)) first ∙ sym (interned-append old (texts_of h) (flat_map texts_of ts)) ∙ ap (interned_all old) (sym (ap texts_of is ∙ texts-app h ts))

-- of an operator
pub table-op : (old between new : List (List ℕ)) (t l r : AstTerm) (o : Operator) (p : Place) → t ≡ Op o p l r → between ≡ interned_all old (texts_of l) → new ≡ interned_all between (texts_of r)
    → new ≡ interned_all old (texts_of t)
table-op old between new t l r o p is first second =
    second ∙ ap (λ (s : List (List ℕ)). interned_all s (texts_of r)) first ∙ sym (interned-append old (texts_of l) (texts_of r)) ∙ ap (interned_all old) (sym (ap texts_of is ∙ texts-op o p l r))

-- of a list
pub table-tailed : (old between new : List (List ℕ)) (t : AstTerm) (p : Place) (es : List AstTerm) (u : AstTerm) → t ≡ Listed p es (Some u) → between ≡ interned_all old (flat_map texts_of es)
    → new ≡ interned_all between (texts_of u) → new ≡ interned_all old (texts_of t)
table-tailed old between new t p es u is first second =
    second ∙ ap (λ (s : List (List ℕ)). interned_all s (texts_of u)) first ∙ sym (interned-append old (flat_map texts_of es) (texts_of u)) ∙ ap (interned_all old) (sym (ap texts_of is ∙ texts-list p es (Some u)))

-- of a list without a tail
pub table-untailed : (old new : List (List ℕ)) (t : AstTerm) (p : Place) (es : List AstTerm) → t ≡ Listed p es None → new ≡ interned_all old (flat_map texts_of es)
    → new ≡ interned_all old (texts_of t)
table-untailed old new t p es is first =
    first ∙ ap (interned_all old) (sym (ap texts_of is ∙ texts-list p es None ∙ append-nil (flat_map texts_of es)))
