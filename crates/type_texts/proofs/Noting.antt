-- Numbers noted one after another, and the constants of trees.
use Rattle.std.proofs.Common.{◌≡◌, ◌∙◌, ℕ, ◌+◌, ◌<◌, List, [], ◌∷◌, ◌++◌, map, length, get_or, take, ap, sym}
use Rattle.std.specs.List.{flat_map}
use Rattle.std.proofs.lemmas.List.{append_assoc, append-nil}
use Rattle.std.proofs.lemmas.List.Sums.{fold-append}
use Rattle.ref_terms.specs.terms.Term as term
use Rattle.ref_terms.specs.terms.Term.{Term}
use Rattle.ref_terms.specs.declared.tree.Tree.{Tree}
use Rattle.ref_terms.specs.declared.tree.Tree.TheVariants.{Ap}
use Rattle.ref_terms.specs.declared.tree.Head.{Head}
use Rattle.lp_resolve.specs.Trees.{as_term, head_term, with_arguments}
use Rattle.lp_resolve.proofs.TreeForms.{term-ap}
use Rattle.lp_resolve.proofs.ReadsAsLemmas.{flat_map_last}
use Rattle.lp_resolve.proofs.PutLemmas.{taken-more}
use Rattle.type_texts.specs.TypeText.{noted, noted_all}
use Rattle.type_texts.specs.Occurring.{constants_in, tree_constants}

-- some numbers and then others
pub noted-both : (start now later xs ys : List ℕ) → now ≡ noted_all start xs → later ≡ noted_all now ys → later ≡ noted_all start (xs ++ ys)
noted-both start now later xs ys one two = two ∙ ap (λ (t : List ℕ). noted_all t ys) one ∙ sym (fold-append noted start xs ys)

-- those of one more item
pub noted-more : {A : Type 0} (f : A → List ℕ) (start now later : List ℕ) (xs : List A) (i : ℕ) (x : A) → i < length xs → x ≡ get_or xs i x
    → now ≡ noted_all start (flat_map f (take i xs)) → later ≡ noted_all now (f x) → later ≡ noted_all start (flat_map f (take (i + 1) xs))
noted-more f start now later xs i x h e known put =
    noted-both start now later (flat_map f (take i xs)) (f x) known put
    ∙ ap (noted_all start) (flat_map_last f (take i xs) x ∙ ap (flat_map f) (taken-more xs i x h e))

-- the constants of a term with arguments
arguments-constants : (f : Term) (ts : List Tree) → constants_in (with_arguments f (map as_term ts)) ≡ constants_in f ++ flat_map tree_constants ts
arguments-constants f [] = sym (append-nil (constants_in f))
arguments-constants f (t ∷ ts) = arguments-constants (term.App f (as_term t)) ts ∙ append_assoc (constants_in f) (tree_constants t) (flat_map tree_constants ts)

pub ap-constants : (t : Tree) (head : Head) (args : List Tree) → t ≡ Ap head args → tree_constants t ≡ constants_in (head_term head) ++ flat_map tree_constants args
ap-constants t head args e = ap tree_constants e ∙ ap constants_in (term-ap head args) ∙ arguments-constants (head_term head) args
