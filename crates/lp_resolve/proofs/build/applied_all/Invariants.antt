use Rattle.std.proofs.Common.{◌≡◌, List, map, vec_len}
use Rattle.std.specs.Prelude.{IsTrue, reverse}
use Rattle.ref_terms.specs.terms.Text.{text_apply_all}
use Rattle.lp_resolve.specs.Trees.{as_term, shape, all_fit}
use Rattle.lp_resolve.proofs.build.applied_all.Given as goal

abbrev pub decreases-loop-argument : goal.decreases-loop-argument
decreases-loop-argument l = vec_len l.rest

-- the tree, applied to the arguments that are left, is the function applied to all
abbrev pub invariant-loop-argument : goal.invariant-loop-argument
invariant-loop-argument l = record {
  fit : IsTrue (all_fit (map shape l.rest.items));
  fits : IsTrue (shape l.tree).fits;
  applied : text_apply_all (as_term l.tree) (map as_term (reverse l.rest.items)) ≡ text_apply_all (as_term l.fn.function) (map as_term l.fn.arguments);
}
