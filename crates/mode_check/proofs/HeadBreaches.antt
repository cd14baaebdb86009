-- The breaches of a rule's heads, head by head.
use Rattle.std.proofs.Common.{◌≡◌, ◌∙◌, ℕ, ◌+◌, ◌<◌, ◌≤◌, min, List, Option, Some, length, get_or, take, slice_get, flat_map, zip, sym, ap, arith}
use Rattle.std.proofs.lemmas.List.{length-map, get_or-map, get_or_default, take_all}
use Rattle.std.proofs.lemmas.Option.{slice_get_within, get_or_from_slice_get}
use Rattle.std.proofs.lemmas.Slice.Zip.{length-zip, get_or-zip}
use Rattle.lp_parser.specs.declared.ast.Place.{Place}
use Rattle.ref_terms.specs.declared.tree.Tree.{Tree}
use Rattle.lp_resolve.specs.declared.program.Pred.{Pred}
use Rattle.lp_resolve.specs.declared.program.RuleTree.{RuleTree}
use Rattle.lp_resolve.specs.StaticRules.{Breach, PlacedHead, rule_heads, goals_of, head_breaches, earlier, first_of}
use Rattle.mode_check.proofs.Firsts.{next-first}

-- a goal with its places
abbrev pub placed : Tree × (Place × List Place) → PlacedHead
placed h = record { tree = h.0; place = h.1.0; vars = h.1.1 }

-- how many heads there are with all their places
pub length-rule_heads : (r : RuleTree) → length (rule_heads r) ≡ min (length (goals_of r)) (min (length r.places.heads) (length r.places.vars))
length-rule_heads r =
    length-map (zip (goals_of r) (zip r.places.heads r.places.vars)) placed
    ∙ length-zip (goals_of r) (zip r.places.heads r.places.vars) ∙ ap (min (length (goals_of r))) (length-zip r.places.heads r.places.vars)

-- one more head
pub heads-more : (preds : List (ℕ × Pred)) (r : RuleTree) (i : ℕ) (tree : Tree) (place : Place) (vars : List Place) (found next later : Option Breach)
    → slice_get (goals_of r) i ≡ Some tree → i < length r.places.heads → i < length r.places.vars
    → place ≡ get_or r.places.heads i place → vars ≡ get_or r.places.vars i vars
    → found ≡ first_of (flat_map (head_breaches preds) (take i (rule_heads r))) → next ≡ first_of (head_breaches preds (placed (tree, (place, vars))))
    → later ≡ earlier found next → later ≡ first_of (flat_map (head_breaches preds) (take (i + 1) (rule_heads r)))
heads-more preds r i tree place vars found next later eg hp hv ep ev before here both =
    let hg : i < length (goals_of r) = slice_get_within (goals_of r) i tree eg in
    let inner : i < length (zip r.places.heads r.places.vars) = omega (arith, length-zip r.places.heads r.places.vars) in
    let outer : i < length (zip (goals_of r) (zip r.places.heads r.places.vars)) = omega (arith, length-zip (goals_of r) (zip r.places.heads r.places.vars)) in
    let within : i < length (rule_heads r) = omega (arith, length-rule_heads r) in
    let places : (place, vars) ≡ get_or (zip r.places.heads r.places.vars) i (place, vars) =
    ap (λ q. (q, vars)) ep ∙ ap (λ vs. (get_or r.places.heads i place, vs)) ev ∙ sym (get_or-zip r.places.heads r.places.vars i (place, vars) hp hv) in
    let item : (tree, (place, vars)) ≡ get_or (zip (goals_of r) (zip r.places.heads r.places.vars)) i (tree, (place, vars)) =
    ap (λ t. (t, (place, vars))) (sym (get_or_from_slice_get (goals_of r) i tree tree eg)) ∙ ap (λ ps. (get_or (goals_of r) i tree, ps)) places
    ∙ sym (get_or-zip (goals_of r) (zip r.places.heads r.places.vars) i (tree, (place, vars)) hg inner) in
    let head : placed (tree, (place, vars)) ≡ get_or (rule_heads r) i (placed (tree, (place, vars))) =
    ap placed item ∙ sym (get_or-map placed (zip (goals_of r) (zip r.places.heads r.places.vars)) i (tree, (place, vars)) (placed (tree, (place, vars))) outer) in
    next-first (head_breaches preds) (rule_heads r) i (placed (tree, (place, vars))) found next later within head before here both

-- the same, as a loop reads them
pub heads-next : (preds : List (ℕ × Pred)) (r : RuleTree) (ps : List Place) (vs : List (List Place)) (i : ℕ) (tree : Tree) (e : Place) (item vars : List Place)
    (found next later : Option Breach)
    → next ≡ first_of (head_breaches preds (placed (tree, (get_or ps i e, vars))))
    → slice_get (goals_of r) i ≡ Some tree → ps ≡ r.places.heads → vs ≡ r.places.vars → i < length ps → i < length vs → item ≡ get_or vs i item → vars ≡ item
    → found ≡ first_of (flat_map (head_breaches preds) (take i (rule_heads r)))
    → later ≡ earlier found next → later ≡ first_of (flat_map (head_breaches preds) (take (i + 1) (rule_heads r)))
heads-next preds r ps vs i tree e item vars found next later here eg eps evs hp hv ei es before both =
    let place : Place = get_or r.places.heads i e in
    let hp' : i < length r.places.heads = omega (arith, ap length eps) in
    let hv' : i < length r.places.vars = omega (arith, ap length evs) in
    let ev : vars ≡ get_or r.places.vars i vars = es ∙ ei ∙ get_or_default vs i item vars hv ∙ ap (λ xs. get_or xs i vars) evs in
    let here' : next ≡ first_of (head_breaches preds (placed (tree, (place, vars)))) =
    here ∙ ap (λ xs. first_of (head_breaches preds (placed (tree, (get_or xs i e, vars))))) eps in
    heads-more preds r i tree place vars found next later eg hp' hv' (get_or_default r.places.heads i e place hp') ev before here' both

-- all heads
pub heads-all : (preds : List (ℕ × Pred)) (r : RuleTree) (n : ℕ) → length (rule_heads r) ≤ n
    → first_of (flat_map (head_breaches preds) (take n (rule_heads r))) ≡ first_of (flat_map (head_breaches preds) (rule_heads r))
heads-all preds r n h = ap (λ hs. first_of (flat_map (head_breaches preds) hs)) (take_all n (rule_heads r) h)
