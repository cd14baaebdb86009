-- Lines of types, as they are written.
use Rattle.std.proofs.Common.{◌≡◌, ◌∙◌, ℕ, ◌+◌, ◌<◌, ◌≤◌, ◌&&◌, Bool, true, false, nat_lt, is_none, Option, List, [], ◌∷◌, ◌++◌, map, take, get_or, length, All, IsPermutation, codes, Result, Ok, Err, IfOk, refl, ap, ap₂, sym, subst}
use Rattle.std.proofs.lemmas.List.{append_assoc, append-nil, map-append, get_or-map, take_more, take_all, get_or_default}
use Rattle.std.proofs.lemmas.List.Elements.{filter_passes}
use Rattle.std.proofs.lemmas.List.Sorted.{All-permutation}
use Rattle.std.proofs.lemmas.Bool.{ltb-true}
use Rattle.lp_resolve.specs.declared.program.Program.{Program}
use Rattle.type_terms.specs.declared.scheme.Polytype.{Polytype}
use Rattle.lp_resolve.proofs.BeginsLemmas.{begins-refl, begins-trans}
use Rattle.type_texts.specs.declared.tasks.Task.TheVariants.{Node as NodeTask}
use Rattle.type_texts.specs.OpenTypes.{OpenType, open_variable}
use Rattle.type_texts.specs.TypeText.{variables_in, noted_all, type_text}
use Rattle.type_texts.specs.TypeLines.{name_in, type_of, type_line, type_lines}
use Rattle.type_texts.specs.Occurring.{occurring, undeclared}
use Rattle.type_texts.specs.inside.Tasks.{Writes}
use Rattle.type_texts.specs.inside.Lines.{WritesLine, HasLines}
use Rattle.type_texts.proofs.Noting.{noted-more}

-- the type of a constant is that at its node
pub type-at : (u : ℕ → OpenType) (nodes : List ℕ) (c : ℕ) → c < length nodes → type_of (map u nodes) c ≡ u (get_or nodes c 0)
type-at u nodes c h = get_or-map u nodes c 0 (open_variable c) h

-- a line, from its parts
pub line-written : (table : List (List ℕ)) (u : ℕ → OpenType) (nodes variables : List ℕ) (c k : ℕ) (variables' front text line : List ℕ) → type_of (map u nodes) c ≡ u k
    → front ≡ name_in table c ++ codes " : " → Writes table u variables front (NodeTask k ∷ []) variables' text [] → line ≡ text ++ 10 ∷ [] → WritesLine table (map u nodes) variables c variables' line
line-written table u nodes variables c k variables' front text line at begun w put = record {
  grows = w.grows;
  numbers = w.numbers ∙ ap (noted_all variables) (append-nil (variables_in (u k)) ∙ ap variables_in (sym at));
  text = λ all b.
      let t = type_text table all (u k) in
      let written : text ≡ front ++ t = sym (append-nil text) ∙ w.texts all b ∙ ap (λ (xs : List ℕ). front ++ xs) (append-nil t) in
      put ∙ ap (λ (xs : List ℕ). xs ++ 10 ∷ []) (written ∙ ap (λ (xs : List ℕ). xs ++ t) begun)
      ∙ append_assoc (name_in table c ++ codes " : ") t (10 ∷ []) ∙ append_assoc (name_in table c) (codes " : ") (t ++ 10 ∷ [])
      ∙ ap (λ (x : OpenType). name_in table c ++ (codes " : " ++ (type_text table all x ++ 10 ∷ []))) (sym at);
}

-- no line yet
pub lines-none : (table : List (List ℕ)) (types : List OpenType) → HasLines table types [] [] []
lines-none table types = record { numbers = refl; texts = λ all b. refl }

-- one more line
pub lines-more : (table : List (List ℕ)) (types : List OpenType) (constants : List ℕ) (i : ℕ) (variables variables' : List ℕ) (lines lines' : List (List ℕ)) (line : List ℕ) → i < length constants
    → HasLines table types (take i constants) variables lines → WritesLine table types variables (get_or constants i 0) variables' line → lines' ≡ lines ++ line ∷ [] → HasLines table types (take (i + 1) constants) variables' lines'
lines-more table types constants i variables variables' lines lines' line h before one put =
    let c = get_or constants i 0 in
    record {
      numbers = noted-more (λ d. variables_in (type_of types d)) [] variables variables' constants i c h (get_or_default constants i 0 c h) before.numbers one.numbers;
      texts = λ all b.
          let f = type_line table types all in
          put ∙ ap₂ (λ (xs : List (List ℕ)) (x : List ℕ). xs ++ x ∷ []) (before.texts all (begins-trans one.grows b)) (one.text all b)
          ∙ sym (map-append f (take i constants) (c ∷ [])) ∙ ap (map f) (sym (take_more constants i 0 h));
    }

-- all lines
pub lines-all : (table : List (List ℕ)) (types : List OpenType) (constants : List ℕ) (i : ℕ) (variables : List ℕ) (lines : List (List ℕ)) → length constants ≤ i → HasLines table types (take i constants) variables lines
    → lines ≡ type_lines table types constants
lines-all table types constants i variables lines h has =
    let all = subst (λ (cs : List ℕ). HasLines table types cs variables lines) (take_all i constants h) has in
    all.texts variables (begins-refl variables) ∙ ap (λ (vs : List ℕ). map (type_line table types vs) constants) all.numbers

-- shown constants are in the table
lower-so : (c count : ℕ) (b : Bool) → (nat_lt c count && b) ≡ true → c < count
lower-so c count b e = at (nat_lt c count) refl e where
  at : (t : Bool) → nat_lt c count ≡ t → (t && b) ≡ true → c < count
  at true low h = ltb-true c count low
  at false low h = absurd (let bad = h in cc)

pub shown-within : (count : ℕ) (declared : ℕ → Option Polytype) (p : Program) (constants : List ℕ) → IsPermutation (undeclared count declared p) constants → All (λ c. c < count) constants
shown-within count declared p constants same =
    let test : ℕ → Bool = λ c. nat_lt c count && is_none (declared c) in
    All-permutation (λ c. c < count) (undeclared count declared p) constants same
    (λ k d h. let c = get_or (undeclared count declared p) k d in lower-so c count (is_none (declared c)) (filter_passes test (noted_all [] (occurring p)) k d h))

-- what follows of an Ok
pub if-ok : {A E : Type 0} {P Q : A → Type 0} (r : Result A E) → ((a : A) → P a → Q a) → IfOk r P → IfOk r Q
if-ok (Ok a) f p = f a p
if-ok (Err e) f p = tt
