-- What holds of every reading: its term is built, its variables and bound names are those that there are, and the
-- variables that were met before keep their numbers.
use Rattle.std.proofs.Common.{◌≡◌, ◌∙◌, ℕ, zero, suc, ◌+◌, ◌<◌, ◌≤◌, Bool, true, false, not, ◌||◌, ◌&&◌, cond, nat_eq, List, [], ◌∷◌, ◌++◌, length, map, Option, Some, None, refl, ap, sym, subst, arith, length-append}
use Rattle.std.specs.Prelude.{IfSome, IsTrue, position}
use Rattle.std.specs.Option.{option_map}
use Rattle.std.specs.List.{list_any, position_or_len}
use Rattle.lp_parser.specs.declared.ast.Place.{Place}
use Rattle.lp_parser.specs.declared.ast.WordKind.{WordKind}
use Rattle.lp_parser.specs.declared.ast.WordKind.TheVariants.{Name, Var, Hole}
use Rattle.lp_parser.specs.declared.ast.AstTerm.{AstTerm, ind-AstTerm, roll-AstTerm, map-AstTerm, fold-roll-AstTerm}
use Rattle.lp_parser.specs.declared.ast.AstTerm.TheOpen.{AstTerm-F}
use Rattle.ref_terms.specs.terms.Term as term
use Rattle.ref_terms.specs.terms.Term.{Term, Lam, At, App}
use Rattle.ref_terms.specs.terms.Text.{text_apply, text_apply_all, IsTextBuilt}
use Rattle.ref_terms.specs.terms.Eta.{lam}
use Rattle.ref_terms.specs.lemmas.TextFacts.{text_built-apply, text_built-lam}
use Rattle.lp_resolve.specs.declared.variable.Variable.{Variable}
use Rattle.lp_resolve.specs.Symbols.{number_of}
use Rattle.lp_resolve.specs.Variables.{Met, is_of, variable, number_in, with_word}
use Rattle.lp_resolve.specs.Trees.{as_term, shape, IsWithin, IsFormed}
use Rattle.lp_resolve.specs.Treed.{tree_of}
use Rattle.lp_resolve.specs.Reading.{Reading, Readings, Reader, constant, binder_of, free_word, word_by, word, read_all, application, abstraction, reserved, operator_name, quantifier_name, list_term, tail_of, listing, reading_at, reading}
use Rattle.lp_resolve.proofs.Counts.{count, count_all, count-apply_all, count-lam}
use Rattle.lp_resolve.proofs.Positions.{position-cons, later}
use Rattle.lp_resolve.proofs.SymbolPlaces.{place-within, place-missing}
use Rattle.lp_resolve.proofs.TreeOf.{fits-before, as_term-tree_of}
use Rattle.lp_resolve.proofs.Within.{within-more, within-apply, within-lam}

-- a reading under so many binders, where these variables were met before
pub record IsGood (depth : ℕ) (before : Met) (r : Reading) : Type 0 where
  pub built : IsTextBuilt r.term
  pub within : IsWithin (length r.met.names) depth r.term
  pub grows : length before.names ≤ length r.met.names
  pub places : length r.met.places ≡ length before.places + count r.term

-- each term is built and within
abbrev pub AreWithin : (variables depth : ℕ) → List Term → Type 0
AreWithin n d [] = Unit {0}
AreWithin n d (t ∷ ts) = (IsTextBuilt t × IsWithin n d t) × AreWithin n d ts

-- the same of readings one after another
pub record AreGood (depth : ℕ) (before : Met) (r : Readings) : Type 0 where
  pub within : AreWithin (length r.met.names) depth r.terms
  pub grows : length before.names ≤ length r.met.names
  pub places : length r.met.places ≡ length before.places + count_all r.terms

-- a reader whose readings are good
abbrev pub ReadsWell : Reader → Type 0
ReadsWell r = (scope : List ℕ) (met : Met) → IsGood (length scope) met (r scope met)

-- readers whose readings are
abbrev pub AllReadWell : List Reader → Type 0
AllReadWell [] = Unit {0}
AllReadWell (r ∷ rs) = ReadsWell r × AllReadWell rs

-- a found place is within the list
position-within : (w : ℕ) (scope : List ℕ) → IfSome (position (nat_eq w) scope) (λ i. i < length scope)
position-within w [] = tt
position-within w (x ∷ xs) = subst (λ o. IfSome o (λ i. i < suc (length xs))) (sym (position-cons (nat_eq w) x xs)) (at (nat_eq w x) (position (nat_eq w) xs) (position-within w xs)) where
  at : (t : Bool) (o : Option ℕ) → IfSome o (λ i. i < length xs) → IfSome (cond t (Some 0) (later o)) (λ i. i < suc (length xs))
  at true o h = let below : 0 < suc (length xs) = omega arith in below
  at false None h = tt
  at false (Some i) h = let below : suc i < suc (length xs) = omega arith in below

-- a word's number is one of the variables with it, and those before keep theirs
numbered : (names : List Variable) (w : ℕ) → (number_in names w < length (with_word w names)) × (length names ≤ length (with_word w names))
numbered names w = at (list_any (is_of w) names) refl where
  at : (b : Bool) → list_any (is_of w) names ≡ b
      → (number_in names w < length (cond b names (names ++ variable w false ∷ []))) × (length names ≤ length (cond b names (names ++ variable w false ∷ [])))
  at true there = (place-within (is_of w) names there, omega arith)
  at false new =
      let more = length-append names (variable w false ∷ []) in
      (omega (arith, place-missing (is_of w) names new, more), omega (arith, more))

-- a word whose binder is known
word-by-good : (o : Option ℕ) (k : WordKind) (w : ℕ) (p : Place) (depth : ℕ) (met : Met) → IfSome o (λ i. i < depth) → IsGood depth met (word_by o k w p met)
word-by-good (Some i) k w p depth met h = record { built = tt; within = h; grows = omega arith; places = omega arith }
word-by-good None Name w p depth met h = record { built = tt; within = tt; grows = omega arith; places = omega arith }
word-by-good None Var w p depth met h =
    let n = numbered met.names w in
    record { built = tt; within = n.0; grows = n.1; places = length-append met.places (p ∷ []) }
word-by-good None Hole w p depth met h =
    let more = length-append met.names (variable w true ∷ []) in
    let below : length met.names < length (met.names ++ variable w true ∷ []) = omega (arith, more) in
    record { built = tt; within = below; grows = omega (arith, more); places = length-append met.places (p ∷ []) }

-- a word
word-good : (k : WordKind) (w : ℕ) (p : Place) → ReadsWell (word k w p)
word-good Name w p scope met = word-by-good (position (nat_eq w) scope) Name w p (length scope) met (position-within w scope)
word-good Var w p scope met = word-by-good (position (nat_eq w) scope) Var w p (length scope) met (position-within w scope)
word-good Hole w p scope met = word-by-good None Hole w p (length scope) met tt

-- a term without variables and bound names
pub record IsClosed (t : Term) : Type 0 where
  pub built : IsTextBuilt t
  pub within : (n d : ℕ) → IsWithin n d t
  pub count_is : count t ≡ 0

-- such a term
constant-good : (t : Term) → IsClosed t → ReadsWell (constant t)
constant-good t c scope met = record { built = c.built; within = c.within (length met.names) (length scope); grows = omega arith; places = omega (arith, c.count_is) }

-- a constant
con-closed : (c : ℕ) → IsClosed (At (term.Con c))
con-closed c = record { built = tt; within = λ n d. tt; count_is = refl }

-- more variables
more-within : (n m d : ℕ) (ts : List Term) → n ≤ m → AreWithin n d ts → AreWithin m d ts
more-within n m d [] h w = tt
more-within n m d (t ∷ ts) h w = ((w.0.0, within-more n m d t h w.0.1), more-within n m d ts h w.1)

-- readings one after another
all-good : (rs : List Reader) → AllReadWell rs → (scope : List ℕ) (met : Met) → AreGood (length scope) met (read_all rs scope met)
all-good [] h scope met = record { within = tt; grows = omega arith; places = omega arith }
all-good (r ∷ rs) h scope met =
    let first = h.0 scope met in
    let rest = all-good rs h.1 scope (r scope met).met in
    record {
      within = ((first.built, within-more (length (r scope met).met.names) (length (read_all rs scope (r scope met).met).met.names) (length scope) (r scope met).term rest.grows first.within), rest.within);
      grows = omega (arith, first.grows, rest.grows);
      places = omega (arith, first.places, rest.places);
    }

-- a term applied to terms
applied-good : (n d : ℕ) (f : Term) (ts : List Term) → IsTextBuilt f → IsWithin n d f → AreWithin n d ts → IsTextBuilt (text_apply_all f ts) × IsWithin n d (text_apply_all f ts)
applied-good n d f [] b w ws = (b, w)
applied-good n d f (t ∷ ts) b w ws = applied-good n d (text_apply f t) ts (text_built-apply f t b ws.0.0) (within-apply n d f t w ws.0.1) ws.1

-- an application
application-good : (f : Reader) (rs : List Reader) → ReadsWell f → AllReadWell rs → ReadsWell (application f rs)
application-good f rs hf hs scope met =
    let first = hf scope met in
    let rest = all-good rs hs scope (f scope met).met in
    let last = read_all rs scope (f scope met).met in
    let n = length last.met.names in
    let all = applied-good n (length scope) (f scope met).term last.terms first.built (within-more (length (f scope met).met.names) n (length scope) (f scope met).term rest.grows first.within) rest.within in
    record {
      built = all.0;
      within = all.1;
      grows = omega (arith, first.grows, rest.grows);
      places = omega (arith, first.places, rest.places, count-apply_all (f scope met).term last.terms);
    }

-- an abstraction
abstraction-good : (w : ℕ) (body : Reader) → ReadsWell body → ReadsWell (abstraction w body)
abstraction-good w body h scope met =
    let b = h (w ∷ scope) met in
    let r = body (w ∷ scope) met in
    record {
      built = text_built-lam r.term b.built;
      within = within-lam (length r.met.names) (length scope) r.term b.within;
      grows = b.grows;
      places = b.places ∙ ap (λ n. length met.places + n) (sym (count-lam r.term));
    }

-- a list of terms
listed-good : (n d : ℕ) (ts : List Term) (tail : Term) → AreWithin n d ts → IsTextBuilt tail → IsWithin n d tail → IsTextBuilt (list_term ts tail) × IsWithin n d (list_term ts tail)
listed-good n d [] tail ws b w = (b, w)
listed-good n d (t ∷ ts) tail ws b w =
    let rest = listed-good n d ts tail ws.1 b w in
    (((tt, ws.0.0, tt), rest.0, tt), ((tt, ws.0.1), rest.1))

-- its places
listed-count : (ts : List Term) (tail : Term) → count (list_term ts tail) ≡ count_all ts + count tail
listed-count [] tail = omega arith
listed-count (t ∷ ts) tail = omega (arith, listed-count ts tail)

-- a list
listing-good : (rs : List Reader) (tail : Reader) → AllReadWell rs → ReadsWell tail → ReadsWell (listing rs tail)
listing-good rs tail hs ht scope met =
    let first = all-good rs hs scope met in
    let front = read_all rs scope met in
    let last = ht scope front.met in
    let r = tail scope front.met in
    let all = listed-good (length r.met.names) (length scope) front.terms r.term (more-within (length front.met.names) (length r.met.names) (length scope) front.terms last.grows first.within) last.built last.within in
    record {
      built = all.0;
      within = all.1;
      grows = omega (arith, first.grows, last.grows);
      places = omega (arith, first.places, last.places, listed-count front.terms r.term);
    }

-- a term that is read well over each table
abbrev pub IsGoodTerm : AstTerm → Type 0
IsGoodTerm t = (table : List (List ℕ)) → ReadsWell (reading table t)

-- terms that are
all-terms : (es : List ((t : AstTerm) × IsGoodTerm t)) (table : List (List ℕ)) → AllReadWell (map (reading table) (map (λ e. e.0) es))
all-terms [] table = tt
all-terms (e ∷ es) table = (e.1 table, all-terms es table)

-- a layer that is read well
made : (x : AstTerm-F AstTerm) (table : List (List ℕ)) → ReadsWell (reading_at table (map-AstTerm AstTerm Reader (reading table) x)) → ReadsWell (reading table (roll-AstTerm x))
made x table h = subst ReadsWell (sym (fold-roll-AstTerm Reader (reading_at table) x)) h

-- one layer of a term
layer : (y : AstTerm-F ((t : AstTerm) × IsGoodTerm t)) → IsGoodTerm (roll-AstTerm (map-AstTerm ((t : AstTerm) × IsGoodTerm t) AstTerm (λ e. e.0) y))
layer (AstTerm-F.Word k text p) table = made (AstTerm-F.Word k text p) table (word-good k (number_of table text) p)
layer (AstTerm-F.Int z p) table = made (AstTerm-F.Int z p) table (constant-good (At (term.Int z)) (record { built = tt; within = λ n d. tt; count_is = refl }))
layer (AstTerm-F.Str text p) table = made (AstTerm-F.Str text p) table (constant-good (At (term.Str (number_of table text))) (record { built = tt; within = λ n d. tt; count_is = refl }))
layer (AstTerm-F.App h es) table = made (AstTerm-F.App h.0 (map (λ e. e.0) es)) table (application-good (reading table h.0) (map (reading table) (map (λ e. e.0) es)) (h.1 table) (all-terms es table))
layer (AstTerm-F.Bind text p b) table = made (AstTerm-F.Bind text p b.0) table (abstraction-good (number_of table text) (reading table b.0) (b.1 table))
layer (AstTerm-F.Op o p l r) table =
    made (AstTerm-F.Op o p l.0 r.0) table (application-good (constant (reserved (operator_name o))) (reading table l.0 ∷ reading table r.0 ∷ []) (constant-good (reserved (operator_name o)) (con-closed _)) (l.1 table, (r.1 table, tt)))
layer (AstTerm-F.Quant u p b) table =
    made (AstTerm-F.Quant u p b.0) table (application-good (constant (reserved (quantifier_name u))) (reading table b.0 ∷ []) (constant-good (reserved (quantifier_name u)) (con-closed _)) (b.1 table, tt))
layer (AstTerm-F.List p es None) table =
    made (AstTerm-F.List p (map (λ e. e.0) es) None) table (listing-good (map (reading table) (map (λ e. e.0) es)) (tail_of None) (all-terms es table) (constant-good _ (con-closed _)))
layer (AstTerm-F.List p es (Some t)) table =
    made (AstTerm-F.List p (map (λ e. e.0) es) (Some t.0)) table (listing-good (map (reading table) (map (λ e. e.0) es)) (reading table t.0) (all-terms es table) (t.1 table))

-- each term is read well
pub reads-well : (t : AstTerm) → IsGoodTerm t
reads-well = ind-AstTerm IsGoodTerm (λ x y is. subst (λ z. IsGoodTerm (roll-AstTerm z)) is (layer y))

-- what is read is well formed
pub reading-formed : (table : List (List ℕ)) (t : AstTerm) (met : Met) → IsFormed (length (reading table t [] met).met.names) 0 (tree_of (reading table t [] met).term)
reading-formed table t met =
    let good = reads-well t table [] met in
    let r = reading table t [] met in
    let back = as_term-tree_of (length r.met.names) 0 r.term good.within in
    record {
      fits = fits-before r.term [] refl;
      built = subst IsTextBuilt (sym back) good.built;
      within = subst (IsWithin (length r.met.names) 0) (sym back) good.within;
    }

-- the variables that were met before keep their numbers
pub reading-grows : (table : List (List ℕ)) (t : AstTerm) (met : Met) → length met.names ≤ length (reading table t [] met).met.names
reading-grows table t met = (reads-well t table [] met).grows
