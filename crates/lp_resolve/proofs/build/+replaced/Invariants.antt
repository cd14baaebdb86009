use Rattle.std.proofs.Common.{◌≡◌, ◌++◌, map, drop}
use Rattle.std.specs.Option.{option_map}
use Rattle.ref_terms.specs.terms.Eta.{partial}
use Rattle.lp_resolve.specs.inside.Replacing.{replacing}
use Rattle.lp_resolve.specs.Trees.{as_term, shape}
use Rattle.lp_resolve.specs.inside.Build.{all_terms}
use Rattle.lp_resolve.proofs.build.+replaced.Given as goal

-- the answers are those of the trees before, and the rest is left
abbrev pub invariant-replaced_all-loop-tree : goal.invariant-replaced_all-loop-tree
invariant-replaced_all-loop-tree l = record {
  terms : option_map (λ rest. map as_term l.answers ++ rest) (all_terms (map (λ tree. partial (replacing l.inside l.target) (as_term tree)) (drop l.tree-index l.trees)))
      ≡ all_terms (map (λ tree. partial (replacing l.inside l.target) (as_term tree)) l.trees);
  shapes : map shape l.answers ++ map shape (drop l.tree-index l.trees) ≡ map shape l.trees;
}
