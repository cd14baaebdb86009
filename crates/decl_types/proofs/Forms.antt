-- Types of texts, form by form.
use Rattle.std.proofs.Common.{◌≡◌, ◌∙◌, ℕ, List, [], ◌∷◌, ◌++◌, Option, max, length, map, fold, ap, ap₂, sym, refl}
use Rattle.std.specs.List.{flat_map}
use Rattle.std.proofs.lemmas.List.{length-map}
use Rattle.lp_parser.specs.declared.ast.Place.{Place}
use Rattle.decl_trees.specs.declared.rule.TypeRule.TheVariants.{Y3}
use Rattle.decl_trees.specs.declared.trees.TypeWord.{TypeWord}
use Rattle.decl_trees.specs.declared.trees.TypeTree.{TypeTree, fold-roll-TypeTree}
use Rattle.decl_trees.specs.declared.trees.TypeTree.TheVariants.{Word, Arrow, rolls-Word, rolls-Arrow}
use Rattle.decl_trees.specs.declared.trees.TypeTree.TheOpen.{TypeTree-F}
use Rattle.type_terms.specs.declared.scheme.Scheme.{Scheme}
use Rattle.type_terms.specs.declared.scheme.Scheme.TheVariants as scheme
use Rattle.decl_types.specs.declared.breach.Breach.{Breach}
use Rattle.decl_types.specs.Reserved.{to}
use Rattle.decl_types.specs.TypeRules.{breaches_if, is_misused, word_breaches, word_breaches_at}
use Rattle.decl_types.specs.DeclaredTypes.{scheme_of, scheme_at, word_scheme, variables_of, variables_at, word_variables, most_variables}

flat-mapped : {A B : Type 0} (f : A → List B) (xs : List A) → flat_map (λ ys. ys) (map f xs) ≡ flat_map f xs
flat-mapped f [] = refl
flat-mapped f (x ∷ xs) = ap (λ ys. f x ++ ys) (flat-mapped f xs)

-- the misused words of a word with arguments, and of an arrow
pub breaches-word : (arrows : ℕ → Option ℕ) (w : TypeWord) (args : List TypeTree) (place : Place)
    → word_breaches arrows (Word w args place) ≡ breaches_if (is_misused arrows w (length args)) Y3 place ++ flat_map (word_breaches arrows) args
breaches-word arrows w args place =
    ap (word_breaches arrows) (sym (rolls-Word w args place)) ∙ fold-roll-TypeTree (List Breach) (word_breaches_at arrows) (TypeTree-F.Word w args place)
    ∙ ap₂ (λ (n : ℕ) (ys : List Breach). breaches_if (is_misused arrows w n) Y3 place ++ ys) (length-map args (word_breaches arrows)) (flat-mapped (word_breaches arrows) args)

pub breaches-arrow : (arrows : ℕ → Option ℕ) (a b : TypeTree) → word_breaches arrows (Arrow a b) ≡ word_breaches arrows a ++ word_breaches arrows b
breaches-arrow arrows a b = ap (word_breaches arrows) (sym (rolls-Arrow a b)) ∙ fold-roll-TypeTree (List Breach) (word_breaches_at arrows) (TypeTree-F.Arrow a b)

-- the types that they are
pub scheme-word : (w : TypeWord) (args : List TypeTree) (place : Place) → scheme_of (Word w args place) ≡ fold scheme.Apply (word_scheme w) (map scheme_of args)
scheme-word w args place = ap scheme_of (sym (rolls-Word w args place)) ∙ fold-roll-TypeTree Scheme scheme_at (TypeTree-F.Word w args place)

pub scheme-arrow : (a b : TypeTree) → scheme_of (Arrow a b) ≡ to (scheme_of a) (scheme_of b)
scheme-arrow a b = ap scheme_of (sym (rolls-Arrow a b)) ∙ fold-roll-TypeTree Scheme scheme_at (TypeTree-F.Arrow a b)

-- their variables
pub variables-word : (w : TypeWord) (args : List TypeTree) (place : Place) → variables_of (Word w args place) ≡ max (word_variables w) (most_variables (map variables_of args))
variables-word w args place = ap variables_of (sym (rolls-Word w args place)) ∙ fold-roll-TypeTree ℕ variables_at (TypeTree-F.Word w args place)

pub variables-arrow : (a b : TypeTree) → variables_of (Arrow a b) ≡ max (variables_of a) (variables_of b)
variables-arrow a b = ap variables_of (sym (rolls-Arrow a b)) ∙ fold-roll-TypeTree ℕ variables_at (TypeTree-F.Arrow a b)
