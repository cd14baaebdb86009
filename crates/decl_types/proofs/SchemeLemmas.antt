-- Types and their variables, argument by argument.
use Rattle.std.proofs.Common.{◌≡◌, ◌∙◌, ℕ, ◌+◌, ◌<◌, max, List, [], ◌∷◌, ◌++◌, length, get_or, take, map, fold, ap, sym, refl}
use Rattle.std.proofs.lemmas.List.{map-append}
use Rattle.decl_trees.specs.declared.trees.TypeTree.{TypeTree}
use Rattle.type_terms.specs.declared.scheme.Scheme.{Scheme}
use Rattle.type_terms.specs.declared.scheme.Scheme.TheVariants.{Apply}
use Rattle.decl_types.specs.DeclaredTypes.{scheme_of, variables_of, most_variables}
use Rattle.decl_types.proofs.Lists.{take-more}

fold-last : {A B : Type 0} (f : B → A → B) (z : B) (xs : List A) (x : A) → fold f z (xs ++ x ∷ []) ≡ f (fold f z xs) x
fold-last f z [] x = refl
fold-last f z (y ∷ xs) x = fold-last f (f z y) xs x

mapped-last : {A B : Type 0} (g : A → B) (xs : List A) (i : ℕ) (x : A) → i < length xs → x ≡ get_or xs i x → map g (take (i + 1) xs) ≡ map g (take i xs) ++ g x ∷ []
mapped-last g xs i x h e = ap (map g) (take-more xs i x h e) ∙ map-append g (take i xs) (x ∷ [])

-- one more argument
pub applied-more : (function : Scheme) (now later argument : Scheme) (args : List TypeTree) (i : ℕ) (x : TypeTree) → i < length args → x ≡ get_or args i x
    → now ≡ fold Apply function (map scheme_of (take i args)) → argument ≡ scheme_of x → later ≡ Apply now argument → later ≡ fold Apply function (map scheme_of (take (i + 1) args))
applied-more function now later argument args i x h e known is made =
    made ∙ ap (λ s. Apply s argument) known ∙ ap (Apply (fold Apply function (map scheme_of (take i args)))) is
    ∙ sym (ap (fold Apply function) (mapped-last scheme_of args i x h e) ∙ fold-last Apply function (map scheme_of (take i args)) (scheme_of x))

-- one more type, whose variables are counted
pub counted-more : (now later count : ℕ) (types : List TypeTree) (i : ℕ) (x : TypeTree) → i < length types → x ≡ get_or types i x
    → now ≡ most_variables (map variables_of (take i types)) → count ≡ variables_of x → later ≡ max count now → later ≡ most_variables (map variables_of (take (i + 1) types))
counted-more now later count types i x h e known is made =
    made ∙ ap (λ n. max n now) is ∙ ap (max (variables_of x)) known
    ∙ sym (ap most_variables (mapped-last variables_of types i x h e) ∙ fold-last (λ most n. max n most) 0 (map variables_of (take i types)) (variables_of x))
