-- The symbols of a reading are those of the table, where it has the term's texts.
use Rattle.std.proofs.Common.{◌≡◌, ◌∙◌, ℕ, zero, suc, ◌+◌, ◌<◌, ◌≤◌, Bool, true, false, cond, nat_eq, List, [], ◌∷◌, ◌++◌, length, map, Option, Some, None, refl, ap, sym, subst, arith, length-append}
use Rattle.std.specs.Prelude.{IfSome, IsTrue, position, flat_map}
use Rattle.std.specs.Option.{option_map}
use Rattle.std.specs.List.{list_any}
use Rattle.lp_parser.specs.declared.ast.Place.{Place}
use Rattle.lp_parser.specs.declared.ast.WordKind.{WordKind}
use Rattle.lp_parser.specs.declared.ast.WordKind.TheVariants.{Name, Var, Hole}
use Rattle.lp_parser.specs.declared.ast.Operator.{Operator}
use Rattle.lp_parser.specs.declared.ast.Operator.TheVariants.{Implied, Or, Comma, Implies, Equal, Is, Cons, Plus, Minus, Times}
use Rattle.lp_parser.specs.declared.ast.AstTerm.{AstTerm, ind-AstTerm, roll-AstTerm, map-AstTerm, fold-roll-AstTerm}
use Rattle.lp_parser.specs.declared.ast.AstTerm.TheOpen.{AstTerm-F}
use Rattle.ref_terms.specs.terms.Term as term
use Rattle.ref_terms.specs.terms.Term.{Term, Lam, At, App}
use Rattle.ref_terms.specs.terms.Text.{text_apply, text_apply_all}
use Rattle.lp_resolve.specs.declared.variable.Variable.{Variable}
use Rattle.lp_resolve.specs.Symbols.{number_of, interned, interned_all, Begins}
use Rattle.lp_resolve.specs.Texts.{texts_of, texts_at, texts_of_tail}
use Rattle.lp_resolve.specs.Variables.{Met, is_of, variable, with_word, with_hole}
use Rattle.lp_resolve.specs.inside.Named.{IsNamed}
use Rattle.lp_resolve.specs.Reading.{Reading, Readings, Reader, constant, binder_of, free_word, word_by, word, read_all, application, abstraction, reserved, operator_name, quantifier_name, list_term, tail_of, listing, reading_at, reading}
use Rattle.lp_resolve.proofs.NamedTerms.{named-more, named-apply, named-lam}
use Rattle.lp_resolve.proofs.ReadingForms.{flat-images, interned-append, begins-same, begins-twice}
use Rattle.lp_resolve.proofs.ReadingSteps.{number-later}
use Rattle.lp_resolve.proofs.SymbolPlaces.{interned-begins, interned-within}

-- the texts are in the table
abbrev pub AreIn : (table : List (List ℕ)) → List (List ℕ) → Type 0
AreIn table [] = Unit {0}
AreIn table (text ∷ texts) = (number_of table text < length table) × AreIn table texts

-- those of both parts
pub in-parts : (table : List (List ℕ)) (xs ys : List (List ℕ)) → AreIn table (xs ++ ys) → AreIn table xs × AreIn table ys
in-parts table [] ys h = (tt, h)
in-parts table (x ∷ xs) ys h = let rest = in-parts table xs ys h.1 in ((h.0, rest.0), rest.1)

-- a text is in each later table
in-later : (table later : List (List ℕ)) (texts : List (List ℕ)) → Begins table later → AreIn table texts → AreIn later texts
in-later table later [] b h = tt
in-later table later (x ∷ xs) b h =
    let same = number-later table later x (number_of table x) refl h.0 b in
    let long : length table ≤ length later = omega (arith, ap (λ (t : List (List ℕ)). length t) b.is, length-append table b.more) in
    (omega (arith, same, long, h.0), in-later table later xs b h.1)

-- a table that texts went into begins with what it was
pub begins-interned : (table : List (List ℕ)) (texts : List (List ℕ)) → Begins table (interned_all table texts)
begins-interned table [] = begins-same table
begins-interned table (x ∷ xs) = begins-twice table (interned table x) (interned_all (interned table x) xs) (interned-begins table x) (begins-interned (interned table x) xs)

-- texts that went into a table are in it
pub interned-in : (table : List (List ℕ)) (texts : List (List ℕ)) → AreIn (interned_all table texts) texts
interned-in table [] = tt
interned-in table (x ∷ xs) =
    ((in-later (interned table x) (interned_all (interned table x) xs) (x ∷ []) (begins-interned (interned table x) xs) (interned-within table x, tt)).0, interned-in (interned table x) xs)

-- the words of variables are among so many symbols
abbrev pub AreNamesIn : (count : ℕ) → List Variable → Type 0
AreNamesIn count [] = Unit {0}
AreNamesIn count (v ∷ vs) = (v.name.0 < count) × AreNamesIn count vs

-- one more variable
names-last : (n : ℕ) (vs : List Variable) (v : Variable) → AreNamesIn n vs → v.name.0 < n → AreNamesIn n (vs ++ v ∷ [])
names-last n [] v h lt = (lt, tt)
names-last n (u ∷ vs) v h lt = (h.0, names-last n vs v h.1 lt)

-- a word
pub names-word : (n w : ℕ) (vs : List Variable) → AreNamesIn n vs → w < n → AreNamesIn n (with_word w vs)
names-word n w vs h lt = at (list_any (is_of w) vs) where
  at : (b : Bool) → AreNamesIn n (cond b vs (vs ++ variable w false ∷ []))
  at true = h
  at false = names-last n vs (variable w false) h lt

-- a reading whose symbols are among so many
pub record AreKnown (count : ℕ) (r : Reading) : Type 0 where
  pub term : IsNamed count r.term
  pub names : AreNamesIn count r.met.names

-- each term's symbols are
abbrev pub AreAllNamed : (count : ℕ) → List Term → Type 0
AreAllNamed count [] = Unit {0}
AreAllNamed count (t ∷ ts) = IsNamed count t × AreAllNamed count ts

-- so of readings one after another
pub record AllKnown (count : ℕ) (r : Readings) : Type 0 where
  pub terms : AreAllNamed count r.terms
  pub names : AreNamesIn count r.met.names

-- a reader that keeps to so many symbols
abbrev pub KeepsTo : (count : ℕ) → Reader → Type 0
KeepsTo count r = (scope : List ℕ) (met : Met) → AreNamesIn count met.names → AreKnown count (r scope met)

-- readers that do
abbrev pub AllKeepTo : (count : ℕ) → List Reader → Type 0
AllKeepTo count [] = Unit {0}
AllKeepTo count (r ∷ rs) = KeepsTo count r × AllKeepTo count rs

-- a word
word-known : (n : ℕ) (k : WordKind) (w : ℕ) (p : Place) → w < n → KeepsTo n (word k w p)
word-known n k w p lt scope met h = at (binder_of k w scope) k where
  at : (o : Option ℕ) (k : WordKind) → AreKnown n (word_by o k w p met)
  at (Some i) k = record { term = tt; names = h }
  at None Name = record { term = lt; names = h }
  at None Var = record { term = tt; names = names-word n w met.names h lt }
  at None Hole = record { term = tt; names = names-last n met.names (variable w true) h lt }

-- readings one after another
all-known : (n : ℕ) (rs : List Reader) → AllKeepTo n rs → (scope : List ℕ) (met : Met) → AreNamesIn n met.names → AllKnown n (read_all rs scope met)
all-known n [] k scope met h = record { terms = tt; names = h }
all-known n (r ∷ rs) k scope met h =
    let first = k.0 scope met h in
    let rest = all-known n rs k.1 scope (r scope met).met first.names in
    record { terms = (first.term, rest.terms); names = rest.names }

-- a term applied to terms
applied-named : (n : ℕ) (f : Term) (ts : List Term) → IsNamed n f → AreAllNamed n ts → IsNamed n (text_apply_all f ts)
applied-named n f [] w ws = w
applied-named n f (t ∷ ts) w ws = applied-named n (text_apply f t) ts (named-apply n f t w ws.0) ws.1

-- an application
application-known : (n : ℕ) (f : Reader) (rs : List Reader) → KeepsTo n f → AllKeepTo n rs → KeepsTo n (application f rs)
application-known n f rs kf ks scope met h =
    let first = kf scope met h in
    let rest = all-known n rs ks scope (f scope met).met first.names in
    record { term = applied-named n (f scope met).term (read_all rs scope (f scope met).met).terms first.term rest.terms; names = rest.names }

-- an abstraction
abstraction-known : (n w : ℕ) (body : Reader) → KeepsTo n body → KeepsTo n (abstraction w body)
abstraction-known n w body k scope met h =
    let b = k (w ∷ scope) met h in
    record { term = named-lam n (body (w ∷ scope) met).term b.term; names = b.names }

-- a list of terms
listed-named : (n : ℕ) (ts : List Term) (tail : Term) → 25 ≤ n → AreAllNamed n ts → IsNamed n tail → IsNamed n (list_term ts tail)
listed-named n [] tail lt ws w = w
listed-named n (t ∷ ts) tail lt ws w =
    let cons : 19 < n = omega (arith, lt) in
    ((cons, ws.0), listed-named n ts tail lt ws.1 w)

-- a list
listing-known : (n : ℕ) (rs : List Reader) (tail : Reader) → 25 ≤ n → AllKeepTo n rs → KeepsTo n tail → KeepsTo n (listing rs tail)
listing-known n rs tail lt ks kt scope met h =
    let first = all-known n rs ks scope met h in
    let last = kt scope (read_all rs scope met).met first.names in
    record { term = listed-named n (read_all rs scope met).terms (tail scope (read_all rs scope met).met).term lt first.terms last.term; names = last.names }

-- an operator's constant
operator-known : (n : ℕ) (o : Operator) → 25 ≤ n → KeepsTo n (constant (reserved (operator_name o)))
operator-known n Implied lt scope met h = let c : 6 < n = omega (arith, lt) in record { term = c; names = h }
operator-known n Or lt scope met h = let c : 4 < n = omega (arith, lt) in record { term = c; names = h }
operator-known n Comma lt scope met h = let c : 3 < n = omega (arith, lt) in record { term = c; names = h }
operator-known n Implies lt scope met h = let c : 5 < n = omega (arith, lt) in record { term = c; names = h }
operator-known n Equal lt scope met h = let c : 9 < n = omega (arith, lt) in record { term = c; names = h }
operator-known n Is lt scope met h = let c : 13 < n = omega (arith, lt) in record { term = c; names = h }
operator-known n Cons lt scope met h = let c : 19 < n = omega (arith, lt) in record { term = c; names = h }
operator-known n Plus lt scope met h = let c : 20 < n = omega (arith, lt) in record { term = c; names = h }
operator-known n Minus lt scope met h = let c : 21 < n = omega (arith, lt) in record { term = c; names = h }
operator-known n Times lt scope met h = let c : 22 < n = omega (arith, lt) in record { term = c; names = h }

-- a quantifier
quantifier-known : (n : ℕ) (u : Bool) → 25 ≤ n → KeepsTo n (constant (reserved (quantifier_name u)))
quantifier-known n true lt scope met h = let c : 7 < n = omega (arith, lt) in record { term = c; names = h }
quantifier-known n false lt scope met h = let c : 8 < n = omega (arith, lt) in record { term = c; names = h }

-- the empty list
nil-known : (n : ℕ) → 25 ≤ n → KeepsTo n (tail_of None)
nil-known n lt scope met h = let c : 18 < n = omega (arith, lt) in record { term = c; names = h }

-- a term whose reading keeps to each table that has its texts
abbrev pub IsKnownTerm : AstTerm → Type 0
IsKnownTerm t = (table : List (List ℕ)) → 25 ≤ length table → AreIn table (texts_of t) → KeepsTo (length table) (reading table t)

-- terms with that
all-terms : (es : List ((t : AstTerm) × IsKnownTerm t)) (table : List (List ℕ)) → 25 ≤ length table → AreIn table (flat_map (λ (ts : List (List ℕ)). ts) (map texts_of (map (λ e. e.0) es)))
    → AllKeepTo (length table) (map (reading table) (map (λ e. e.0) es))
all-terms [] table lt h = tt
all-terms (e ∷ es) table lt h =
    let parts = in-parts table (texts_of e.0) (flat_map (λ (ts : List (List ℕ)). ts) (map texts_of (map (λ d. d.0) es))) h in
    (e.1 table lt parts.0, all-terms es table lt parts.1)

-- a layer of a term with that
made : (x : AstTerm-F AstTerm) → ((table : List (List ℕ)) → 25 ≤ length table → AreIn table (texts_at (map-AstTerm AstTerm (List (List ℕ)) texts_of x)) → KeepsTo (length table) (reading_at table (map-AstTerm AstTerm Reader (reading table) x)))
    → IsKnownTerm (roll-AstTerm x)
made x h table lt are =
    subst (KeepsTo (length table)) (sym (fold-roll-AstTerm Reader (reading_at table) x))
    (h table lt (subst (AreIn table) (fold-roll-AstTerm (List (List ℕ)) texts_at x) are))

-- one layer of a term
layer : (y : AstTerm-F ((t : AstTerm) × IsKnownTerm t)) → IsKnownTerm (roll-AstTerm (map-AstTerm ((t : AstTerm) × IsKnownTerm t) AstTerm (λ e. e.0) y))
layer (AstTerm-F.Word k text p) = made (AstTerm-F.Word k text p) (λ table lt are. word-known (length table) k (number_of table text) p are.0)
layer (AstTerm-F.Int z p) = made (AstTerm-F.Int z p) (λ table lt are scope met h. record { term = tt; names = h })
layer (AstTerm-F.Str text p) = made (AstTerm-F.Str text p) (λ table lt are scope met h. record { term = are.0; names = h })
layer (AstTerm-F.App f es) = made (AstTerm-F.App f.0 (map (λ e. e.0) es)) (λ table lt are.
    let parts = in-parts table (texts_of f.0) (flat_map (λ (ts : List (List ℕ)). ts) (map texts_of (map (λ d. d.0) es))) are in
    application-known (length table) (reading table f.0) (map (reading table) (map (λ e. e.0) es)) (f.1 table lt parts.0) (all-terms es table lt parts.1))
layer (AstTerm-F.Bind text p b) = made (AstTerm-F.Bind text p b.0) (λ table lt are. abstraction-known (length table) (number_of table text) (reading table b.0) (b.1 table lt are.1))
layer (AstTerm-F.Op o p l r) = made (AstTerm-F.Op o p l.0 r.0) (λ table lt are.
    let parts = in-parts table (texts_of l.0) (texts_of r.0) are in
    application-known (length table) (constant (reserved (operator_name o))) (reading table l.0 ∷ reading table r.0 ∷ []) (operator-known (length table) o lt) (l.1 table lt parts.0, (r.1 table lt parts.1, tt)))
layer (AstTerm-F.Quant u p b) = made (AstTerm-F.Quant u p b.0) (λ table lt are.
    application-known (length table) (constant (reserved (quantifier_name u))) (reading table b.0 ∷ []) (quantifier-known (length table) u lt) (b.1 table lt are, tt))
layer (AstTerm-F.List p es None) = made (AstTerm-F.List p (map (λ e. e.0) es) None) (λ table lt are.
    let parts = in-parts table (flat_map (λ (ts : List (List ℕ)). ts) (map texts_of (map (λ d. d.0) es))) [] are in
    listing-known (length table) (map (reading table) (map (λ e. e.0) es)) (tail_of None) lt (all-terms es table lt parts.0) (nil-known (length table) lt))
layer (AstTerm-F.List p es (Some t)) = made (AstTerm-F.List p (map (λ e. e.0) es) (Some t.0)) (λ table lt are.
    let parts = in-parts table (flat_map (λ (ts : List (List ℕ)). ts) (map texts_of (map (λ d. d.0) es))) (texts_of t.0) are in
    listing-known (length table) (map (reading table) (map (λ e. e.0) es)) (reading table t.0) lt (all-terms es table lt parts.0) (t.1 table lt parts.1))

-- the symbols of what is read are the table's
pub reading-known : (t : AstTerm) → IsKnownTerm t
reading-known = ind-AstTerm IsKnownTerm (λ x y is. subst (λ z. IsKnownTerm (roll-AstTerm z)) is (layer y))
