use Rattle.std.proofs.Common.{◌≡◌, ℕ, List, [], ◌∷◌, map, Some, option_map, refl, sym, ap, ◌∙◌}
use Rattle.ref_terms.specs.unification.Pattern.{names_of, of_name}
use Rattle.eigen_align.proofs.spine.spine_before.Goals as goal

-- the names of spine names are those names
same : (ns : List ℕ) → names_of (map of_name ns) ≡ ns
same [] = refl
same (n ∷ ns) = ap (λ (ms : List ℕ). n ∷ ms) (same ns)

pub returns-in-Some-clause-spine : goal.returns-in-Some-clause-spine
returns-in-Some-clause-spine c =
    ap (λ (ns : List ℕ). Some (c.args.variable.index, ns)) (sym (same c.in-Some.names.items))
    ∙ ap (option_map (λ ms. (c.args.variable.index, names_of ms))) (ap (option_map (λ ns. map of_name ns.items)) (sym c.in-Some.is) ∙ c.in_ok-names.ensures.pattern)
