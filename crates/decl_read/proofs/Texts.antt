-- Texts that go into a table one after another.
use Rattle.std.proofs.Common.{◌≡◌, ◌∙◌, ℕ, ◌+◌, ◌<◌, List, ◌++◌, length, get_or, take, ap}
use Rattle.std.specs.List.{flat_map}
use Rattle.lp_resolve.specs.Symbols.{interned_all}
use Rattle.lp_resolve.proofs.ReadsAsLemmas.{interned_all-more, flat_map_last}
use Rattle.lp_resolve.proofs.PutLemmas.{taken-more}

-- the texts of one more item
pub texts-more : {A : Type 0} (texts : A → List (List ℕ)) (start now later : List (List ℕ)) (xs : List A) (i : ℕ) (x : A) → i < length xs → x ≡ get_or xs i x
    → now ≡ interned_all start (flat_map texts (take i xs)) → later ≡ interned_all now (texts x) → later ≡ interned_all start (flat_map texts (take (i + 1) xs))
texts-more texts start now later xs i x h e known put =
    put ∙ ap (λ t. interned_all t (texts x)) known ∙ interned_all-more start (flat_map texts (take i xs)) (texts x)
    ∙ ap (interned_all start) (flat_map_last texts (take i xs) x ∙ ap (flat_map texts) (taken-more xs i x h e))

-- some texts and then others
pub texts-both : (start now later xs ys : List (List ℕ)) → now ≡ interned_all start xs → later ≡ interned_all now ys → later ≡ interned_all start (xs ++ ys)
texts-both start now later xs ys one two = two ∙ ap (λ t. interned_all t ys) one ∙ interned_all-more start xs ys
