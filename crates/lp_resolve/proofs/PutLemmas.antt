-- Lists to which what is read is put last, whatever is put into the table later.
use Rattle.std.proofs.Common.{◌≡◌, ◌∙◌, ◌<◌, ◌+◌, ℕ, List, [], ◌∷◌, ◌++◌, append_assoc, map, flat_map, ap, refl, sym, subst, take, length, get_or}
use Rattle.std.proofs.lemmas.List.{take_more, map-append, flat_map_more}
use Rattle.lp_resolve.specs.Symbols.{interned_all, Begins}
use Rattle.lp_resolve.proofs.BeginsLemmas.{begins-refl, begins-trans}
use Rattle.lp_resolve.proofs.ReadsAsLemmas.{interned_all-more, flat_map_last}

-- What these items give, whatever is put into the table later, was put last.
pub record HavePut {A B : Type 0} (gives : List (List ℕ) → List A → List B) (table : List (List ℕ)) (before : List B) (xs : List A) (after : List B) : Type 0 where
  pub is : (later : List (List ℕ)) → Begins table later → after ≡ before ++ gives later xs

-- the texts of items that were read
pub record HaveTexts {A : Type 0} (texts : A → List (List ℕ)) (start table : List (List ℕ)) (xs : List A) : Type 0 where
  pub begins : Begins start table
  pub table_is : table ≡ interned_all start (flat_map texts xs)

-- none yet
pub have_texts-none : {A : Type 0} (texts : A → List (List ℕ)) (start : List (List ℕ)) (xs : List A) → HaveTexts texts start start (take 0 xs)
have_texts-none texts start xs = record { begins = begins-refl start; table_is = refl }

-- one more item
module _ {A : Type 0} (xs : List A) (i : ℕ) (x : A) (within : i < length xs) (item : x ≡ get_or xs i x) where
  -- the items up to it
  pub taken-more : take i xs ++ x ∷ [] ≡ take (i + 1) xs
  taken-more = ap (λ z. take i xs ++ z ∷ []) item ∙ sym (take_more xs i x within)

  -- its texts
  pub have_texts-more : (texts : A → List (List ℕ)) (start table next : List (List ℕ))
      → HaveTexts texts start table (take i xs) → Begins table next → next ≡ interned_all table (texts x) → HaveTexts texts start next (take (i + 1) xs)
  have_texts-more texts start table next so_far b grown =
      subst (λ zs. HaveTexts texts start next zs) taken-more
      (record {
        begins = begins-trans so_far.begins b;
        table_is = grown ∙ ap (λ t. interned_all t (texts x)) so_far.table_is ∙ interned_all-more start (flat_map texts (take i xs)) (texts x) ∙ ap (interned_all start) (flat_map_last texts (take i xs) x);
      })

  -- what it gives
  pub have_put-more : {B : Type 0} (gives : List (List ℕ) → List A → List B) (table next : List (List ℕ)) (before now after : List B) (one : List (List ℕ) → List B)
      → ((later : List (List ℕ)) → gives later (take i xs ++ x ∷ []) ≡ gives later (take i xs) ++ one later)
      → HavePut gives table before (take i xs) now → Begins table next → ((later : List (List ℕ)) → Begins next later → after ≡ now ++ one later)
      → HavePut gives next before (take (i + 1) xs) after
  have_put-more gives table next before now after one law so_far b last =
      subst (λ zs. HavePut gives next before zs after) taken-more
      (record {
        is = λ later c.
            last later c
            ∙ ap (λ ys. ys ++ one later) (so_far.is later (begins-trans b c))
            ∙ append_assoc before (gives later (take i xs)) (one later)
            ∙ ap (λ ys. before ++ ys) (sym (law later));
      })
