-- The pairs of a rule, one by one.
use Rattle.std.proofs.Common.{◌≡◌, ◌∙◌, ℕ, ◌+◌, ◌<◌, Bool, not, nat_eq, List, [], ◌∷◌, Option, length, get_or, take, flat_map, zip, ap}
use Rattle.std.specs.Prelude.{if◌then◌else◌}
use Rattle.std.proofs.lemmas.List.{get_or_default}
use Rattle.indexmap.specs.IndexMap.{IndexMap, get}
use Rattle.lp_parser.specs.declared.ast.Place.{Place}
use Rattle.ref_terms.specs.declared.tree.Tree.{Tree}
use Rattle.lp_resolve.specs.declared.program.PairTree.{PairTree}
use Rattle.lp_resolve.specs.declared.static_rule.StaticRule.TheVariants.{S7}
use Rattle.lp_resolve.specs.StaticRules.{Breach, head_with, are_in_order, is_unaligned, breaches_at, earlier, first_of}
use Rattle.mode_check.proofs.Firsts.{breach_at, marked-more}

-- one more pair, where for each variable its first head is known
pub unaligned-more : {S : Type 0} (goals : List Tree) (heads : IndexMap ℕ ℕ S) (pairs : List PairTree) (ps : List Place) (i : ℕ) (d : PairTree) (e : Place)
    (broken : Bool) (found next later : Option Breach)
    → next ≡ first_of (breaches_at S7 (if broken then get_or ps i e ∷ [] else []))
    → broken ≡ not (are_in_order (get nat_eq heads (get_or pairs i d).left) (get nat_eq heads (get_or pairs i d).right))
    → ((v : ℕ) → get nat_eq heads v ≡ head_with v goals)
    → i < length pairs → i < length ps → found ≡ first_of (flat_map (breach_at S7 (is_unaligned goals)) (take i (zip pairs ps))) → later ≡ earlier found next
    → later ≡ first_of (flat_map (breach_at S7 (is_unaligned goals)) (take (i + 1) (zip pairs ps)))
unaligned-more goals heads pairs ps i d e broken found next later here known all hx hp before both =
    let pair : PairTree = get_or pairs i d in
    let says : broken ≡ is_unaligned goals pair =
    known ∙ ap (λ o. not (are_in_order o (get nat_eq heads pair.right))) (all pair.left) ∙ ap (λ o. not (are_in_order (head_with pair.left goals) o)) (all pair.right) in
    marked-more S7 (is_unaligned goals) pairs ps i pair e broken found next later here says (get_or_default pairs i d pair hx) hx hp before both
