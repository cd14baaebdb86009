-- Lists that grow as another one is gone through.
use Rattle.std.proofs.Common.{◌≡◌, ◌∙◌, ℕ, ◌+◌, ◌<◌, List, [], ◌∷◌, ◌++◌, length, get_or, take, map, ap, sym}
use Rattle.std.specs.List.{flat_map}
use Rattle.std.proofs.lemmas.List.{take_more, map-append, append_assoc, append-nil}
use Rattle.std.proofs.lemmas.Grind.{flat_map-append}
use Rattle.decl_trees.specs.declared.trees.PlacedName.{PlacedName}

-- what stands past the end of a list of names
abbrev pub no-name : PlacedName
no-name = record { sym = record { 0 = 0 }; place = record { file = 0; at = 0 } }

-- a list with one more element
pub take-more : {A : Type 0} (xs : List A) (i : ℕ) (x : A) → i < length xs → x ≡ get_or xs i x → take (i + 1) xs ≡ take i xs ++ x ∷ []
take-more xs i x h e = take_more xs i x h ∙ ap (λ y. take i xs ++ y ∷ []) (sym e)

-- what is put last for each of them
pub mapped-more : {A B : Type 0} (f : A → B) (before now later : List B) (xs : List A) (i : ℕ) (x : A) (y : B) → i < length xs → x ≡ get_or xs i x → y ≡ f x → now ≡ before ++ map f (take i xs) → later ≡ now ++ y ∷ []
    → later ≡ before ++ map f (take (i + 1) xs)
mapped-more f before now later xs i x y h e is known put =
    put ∙ ap (λ z. now ++ z ∷ []) is ∙ ap (λ ys. ys ++ f x ∷ []) known ∙ append_assoc before (map f (take i xs)) (f x ∷ [])
    ∙ ap (λ ys. before ++ ys) (sym (map-append f (take i xs) (x ∷ [])) ∙ ap (map f) (sym (take-more xs i x h e)))

pub flat-more : {A B : Type 0} (f : A → List B) (now later : List B) (xs : List A) (i : ℕ) (x : A) → i < length xs → x ≡ get_or xs i x → now ≡ flat_map f (take i xs) → later ≡ now ++ f x → later ≡ flat_map f (take (i + 1) xs)
flat-more f now later xs i x h e known put =
    put ∙ ap (λ ys. ys ++ f x) known ∙ ap (λ ys. flat_map f (take i xs) ++ ys) (sym (append-nil (f x)))
    ∙ sym (flat_map-append f (take i xs) (x ∷ [])) ∙ ap (flat_map f) (sym (take-more xs i x h e))

-- nothing is put last
pub none-more : {A : Type 0} (xs : List A) → xs ≡ xs ++ []
none-more xs = sym (append-nil xs)
