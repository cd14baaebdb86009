-- The places of a tree, form by form.
use Rattle.std.proofs.Common.{◌≡◌, ◌∙◌, ◌+◌, ap, sym, refl, List, [], ◌∷◌, ◌++◌, map, flat_map, length, sum_by, arith, length-append}
use Rattle.std.proofs.lemmas.List.Folds.{flat_map-map}
use Rattle.std.proofs.lemmas.List.Concat.{length-flat_map}
use Rattle.ref_terms.specs.declared.tree.Tree.{Tree, fold-roll-Tree}
use Rattle.ref_terms.specs.declared.tree.Tree.TheVariants.{Lam, Ap, rolls-Lam, rolls-Ap}
use Rattle.ref_terms.specs.declared.tree.Head.{Head}
use Rattle.ref_terms.specs.declared.tree.Head.TheOpen.{Tree-F}
use Rattle.lp_resolve.specs.Occurrences.{Walked, Front, front_at, walked_at, walked, head_walked, front_places, occurrences}

-- a head with its arguments
pub walked-ap : (head : Head) (args : List Tree) → walked (Ap head args) ≡ walked_at (Tree-F.Ap (head_walked head) (map walked args))
walked-ap head args = ap walked (sym (rolls-Ap head args)) ∙ fold-roll-Tree Front Walked front_at walked_at (Tree-F.Ap head args)

-- the places inside the arguments
pub length-places : (args : List Tree) → length (flat_map (λ a. a.places) (map walked args)) ≡ sum_by (λ t. length (occurrences t)) args
length-places args = ap length (flat_map-map (λ a. a.places) walked args) ∙ length-flat_map occurrences args

-- how many places an application has
pub length-occurrences-ap : (head : Head) (args : List Tree) →
    length (occurrences (Ap head args)) ≡ length (front_places (head_walked head) (map (λ a. a.name) (map walked args))) + sum_by (λ t. length (occurrences t)) args
length-occurrences-ap head args =
    ap (λ w. length w.places) (walked-ap head args)
    ∙ length-append (front_places (head_walked head) (map (λ a. a.name) (map walked args))) (flat_map (λ a. a.places) (map walked args))
    ∙ ap (λ n. length (front_places (head_walked head) (map (λ a. a.name) (map walked args))) + n) (length-places args)
