-- Tables that begin with others.
use Rattle.std.proofs.Common.{◌≡◌, ◌∙◌, ℕ, suc, ◌+◌, Bool, true, false, not, ◌||◌, cond, List, [], ◌∷◌, ◌++◌, append-nil, append_assoc, refl, ap, sym, subst}
use Rattle.std.proofs.lemmas.List.Folds.{list_any-append}
use Rattle.std.specs.List.{list_any, position_or_len}
use Rattle.std.specs.Str.{bytes_eq}
use Rattle.std.specs.Cmp.Lexicographic.{nat_list_eq_equiv}
use Rattle.ref_terms.specs.declared.sym.Sym.{Sym}
use Rattle.lp_resolve.specs.Symbols.{number_of, interned, Begins}
use Rattle.lp_resolve.proofs.SymbolPlaces.{interned-old, interned-new}

-- a list begins with itself
pub begins-refl : {A : Type 0} (xs : List A) → Begins xs xs
begins-refl xs = record { more = []; is = sym (append-nil xs) }

-- and with what its front begins with
pub begins-trans : {A : Type 0} {xs ys zs : List A} → Begins xs ys → Begins ys zs → Begins xs zs
begins-trans {xs = xs} b c = record { more = b.more ++ c.more; is = c.is ∙ ap (λ l. l ++ c.more) b.is ∙ append_assoc xs b.more c.more }

-- one more in front
place-step : (b : Bool) (any : Bool) (m n : ℕ) → (b || any) ≡ true → (any ≡ true → m ≡ n) → cond (not b) (1 + m) 0 ≡ cond (not b) (1 + n) 0
place-step true any m n e rest = refl
place-step false any m n e rest = ap (λ k. 1 + k) (rest e)

-- the first place of what stands in a front
place-front : {A : Type 0} (p : A → Bool) (xs ys : List A) → list_any p xs ≡ true → position_or_len p (xs ++ ys) ≡ position_or_len p xs
place-front p [] ys any = absurd (cc)
place-front p (x ∷ xs) ys any =
    place-step (p x) (list_any p xs) (position_or_len p (xs ++ ys)) (position_or_len p xs) any (λ e. place-front p xs ys e)

-- a text that is interned is there
interned-there : (table : List (List ℕ)) (text : List ℕ) → list_any (bytes_eq text) (interned table text) ≡ true
interned-there table text = at (list_any (bytes_eq text) table) refl where
  at : (b : Bool) → list_any (bytes_eq text) table ≡ b → list_any (bytes_eq text) (interned table text) ≡ true
  at true e = ap (λ t. list_any (bytes_eq text) t) (interned-old table text e) ∙ e
  at false e =
      ap (λ t. list_any (bytes_eq text) t) (interned-new table text e)
      ∙ list_any-append (bytes_eq text) table (text ∷ [])
      ∙ rw (e, nat_list_eq_equiv.refl text) refl

-- an interned text keeps its number in each later table
pub number-later : (table : List (List ℕ)) (text : List ℕ) (later : List (List ℕ)) → Begins (interned table text) later
    → number_of later text ≡ number_of (interned table text) text
number-later table text later b =
    ap (λ t. number_of t text) b.is ∙ place-front (bytes_eq text) (interned table text) b.more (interned-there table text)

-- the symbol of an interned text, over each later table
pub symbol-later : (table next : List (List ℕ)) (text : List ℕ) (symbol : Sym) → next ≡ interned table text → symbol.0 ≡ number_of next text
    → (later : List (List ℕ)) → Begins next later → symbol ≡ record { 0 = number_of later text }
symbol-later table next text symbol grown number later b =
    ap (λ n. record { 0 = n }) (number ∙ ap (λ t. number_of t text) grown ∙ sym (number-later table text later (subst (λ t. Begins t later) grown b)))
