use Rattle.std.proofs.Common.{◌≡◌, [], ◌∷◌, ◌++◌, length}
use Rattle.std.specs.List.{list_all}
use Rattle.level_terms.specs.Valid.{valid}
use Rattle.pattern_unify.specs.Places.{AllPlaces, valid_there, places_size}
use Rattle.pattern_unify.proofs.validity.is_valid_at.Given as goal

abbrev pub invariant-loop-node : goal.invariant-loop-node
invariant-loop-node l = record {
  there : AllPlaces (length l.heap.nodes) (l.work.items ++ l.place ∷ []);
  same : list_all (valid_there l.heap) (l.work.items ++ l.place ∷ []) ≡ valid l.heap.nodes l.heap.depths l.fn.t.index l.fn.depth;
}

abbrev pub decreases-loop-node : goal.decreases-loop-node
decreases-loop-node l = places_size l.heap (l.work.items ++ l.place ∷ [])
