-- A reading meets as many words of variables as its tree has variables at their places.
use Rattle.std.proofs.Common.{◌≡◌, ◌∙◌, ◌+◌, ℕ, Option, ap, sym, refl, List, [], ◌∷◌, map, length, sum_by, arith}
use Rattle.std.proofs.lemmas.List.Sums.{sum_by-cons}
use Rattle.lp_parser.specs.declared.ast.AstTerm.{AstTerm}
use Rattle.ref_terms.specs.terms.Term as term
use Rattle.ref_terms.specs.terms.Term.{Term}
use Rattle.ref_terms.specs.declared.tree.Tree.{Tree, fold-roll-Tree}
use Rattle.ref_terms.specs.declared.tree.Tree.TheVariants.{Lam, Ap, rolls-Lam}
use Rattle.ref_terms.specs.declared.tree.Head.{Head, fold-roll-Head}
use Rattle.ref_terms.specs.declared.tree.Head.TheVariants.{Con, Int, Str, Bound, ClauseVar, Stuck, rolls-Con, rolls-Int, rolls-Str, rolls-Bound, rolls-ClauseVar, rolls-Stuck}
use Rattle.ref_terms.specs.declared.tree.Head.TheOpen.{Head-F, Tree-F}
use Rattle.lp_resolve.specs.Variables.{Met}
use Rattle.lp_resolve.specs.Reading.{reading}
use Rattle.lp_resolve.specs.Treed.{head_of, tree_before, tree_of}
use Rattle.lp_resolve.specs.Occurrences.{Walked, Front, variable, bound_name, stuck, other, front_at, walked_at, walked, head_walked, front_places, occurrences}
use Rattle.lp_resolve.proofs.Counts.{count, count_head}
use Rattle.lp_resolve.proofs.OccurrenceLemmas.{length-occurrences-ap}
use Rattle.lp_resolve.proofs.ReadingFacts.{reads-well}

-- an abstraction
walked-lam : (body : Tree) → walked (Lam body) ≡ walked_at (Tree-F.Lam (walked body))
walked-lam body = ap walked (sym (rolls-Lam body)) ∙ fold-roll-Tree Front Walked front_at walked_at (Tree-F.Lam body)

-- a stuck abstraction
walked-stuck : (t : Tree) → head_walked (Stuck t) ≡ stuck (walked t).places
walked-stuck t = ap head_walked (sym (rolls-Stuck t)) ∙ fold-roll-Head Front Walked front_at walked_at (Head-F.Stuck t)

-- a head of a term
length-front : (h : term.Head) (spine : List (Option ℕ)) → length (front_places (head_walked (head_of h)) spine) ≡ count_head h
length-front (term.Con c) spine =
    ap (λ f. length (front_places f spine)) (ap head_walked (sym (rolls-Con _)) ∙ fold-roll-Head Front Walked front_at walked_at (Head-F.Con _))
length-front (term.Int z) spine =
    ap (λ f. length (front_places f spine)) (ap head_walked (sym (rolls-Int z)) ∙ fold-roll-Head Front Walked front_at walked_at (Head-F.Int z))
length-front (term.Str s) spine =
    ap (λ f. length (front_places f spine)) (ap head_walked (sym (rolls-Str _)) ∙ fold-roll-Head Front Walked front_at walked_at (Head-F.Str _))
length-front (term.Name n) spine =
    ap (λ f. length (front_places f spine)) (ap head_walked (sym (rolls-Bound n)) ∙ fold-roll-Head Front Walked front_at walked_at (Head-F.Bound n))
length-front (term.Bound i) spine =
    ap (λ f. length (front_places f spine)) (ap head_walked (sym (rolls-Bound i)) ∙ fold-roll-Head Front Walked front_at walked_at (Head-F.Bound i))
length-front (term.Var v) spine =
    ap (λ f. length (front_places f spine)) (ap head_walked (sym (rolls-ClauseVar v)) ∙ fold-roll-Head Front Walked front_at walked_at (Head-F.ClauseVar v))

-- how many places an abstraction has
length-lam : (body : Tree) → length (occurrences (Lam body)) ≡ length (occurrences body)
length-lam body = ap (λ w. length w.places) (walked-lam body)

-- how many places the tree of a term has, before these arguments
length-before : (t : Term) (args : List Tree) → length (occurrences (tree_before args t)) ≡ count t + sum_by (λ a. length (occurrences a)) args
length-before (term.App f a) args =
    let rest = sum_by-cons (λ x. length (occurrences x)) (tree_before [] a) args in
    let whole : length (occurrences (tree_before args (term.App f a))) ≡ count f + (length (occurrences (tree_before [] a)) + sum_by (λ x. length (occurrences x)) args) =
    length-before f (tree_before [] a ∷ args) ∙ ap (λ n. count f + n) rest in
    let inner : length (occurrences (tree_before [] a)) ≡ count a + 0 = length-before a [] in
    omega arith
length-before (term.At h) args =
    length-occurrences-ap (head_of h) args ∙ ap (λ n. n + sum_by (λ a. length (occurrences a)) args) (length-front h (map (λ a. a.name) (map walked args)))
length-before (term.Lam b) [] = length-lam (tree_before [] b) ∙ length-before b []
length-before (term.Lam b) (a ∷ args) =
    let body = tree_before [] b in
    let spine = map (λ w. w.name) (map walked (a ∷ args)) in
    let front = ap (λ f. length (front_places f spine)) (walked-stuck (Lam body)) ∙ length-lam body in
    omega (arith, length-occurrences-ap (Stuck (Lam body)) (a ∷ args), front, length-before b [])

-- a reading meets as many words as its tree has places
pub reading-places : (table : List (List ℕ)) (t : AstTerm) (met : Met)
    → length (reading table t [] met).met.places ≡ length met.places + length (occurrences (tree_of (reading table t [] met).term))
reading-places table t met =
    let r = reading table t [] met in
    omega (arith, (reads-well t table [] met).places, length-before r.term [])
