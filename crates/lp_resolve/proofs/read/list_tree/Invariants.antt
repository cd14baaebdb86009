use Rattle.std.proofs.Common.{◌≡◌, List, map, vec_len}
use Rattle.std.specs.Prelude.{IsTrue}
use Rattle.lp_resolve.specs.Trees.{as_term, shape, all_fit}
use Rattle.lp_resolve.specs.Reading.{list_term}
use Rattle.lp_resolve.proofs.read.list_tree.Given as goal

abbrev pub decreases-loop-element : goal.decreases-loop-element
decreases-loop-element l = vec_len l.elements

-- the elements that are left, before the list of those that were taken, are the list of all
abbrev pub invariant-loop-element : goal.invariant-loop-element
invariant-loop-element l = record {
  fit : IsTrue (all_fit (map shape l.elements.items));
  fits : IsTrue (shape l.list).fits;
  list : list_term (map as_term l.elements.items) (as_term l.list) ≡ list_term (map as_term l.fn.elements) (as_term l.fn.tail);
}
