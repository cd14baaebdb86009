-- The goals of a rule's heads, by their places.
use Rattle.std.proofs.Common.{◌≡◌, ◌∙◌, ℕ, ◌-◌, ◌<◌, ◌≤◌, List, Some, length, get_or, slice_get, option_map, sym, ap, arith}
use Rattle.std.proofs.lemmas.Option.{slice_get-map, slice_get-get_or}
use Rattle.std.proofs.lemmas.List.{length-map, get_or-append_right}
use Rattle.lp_resolve.specs.declared.program.HeadTree.{HeadTree}
use Rattle.lp_resolve.specs.declared.program.RuleTree.{RuleTree}
use Rattle.lp_resolve.specs.StaticRules.{heads_of, goals_of}

-- that of a head behind the kept ones
pub goal-removed : (r : RuleTree) (kept removed : List HeadTree) (i : ℕ) (d : HeadTree) → kept ≡ r.kept → removed ≡ r.removed
    → length kept ≤ i → i < length (goals_of r) → slice_get (goals_of r) i ≡ Some (get_or removed (i - length kept) d).goal
goal-removed r kept removed i d p q h l =
    let within : i < length (heads_of r) = omega (arith, length-map (heads_of r) (λ (head : HeadTree). head.goal)) in
    slice_get-map (λ head. head.goal) (heads_of r) i
    ∙ ap (option_map (λ head. head.goal)) (slice_get-get_or (heads_of r) i d within
    ∙ ap Some (get_or-append_right r.kept r.removed (length kept) i d (sym (ap length p)) h ∙ ap (λ heads. get_or heads (i - length kept) d) (sym q)))
