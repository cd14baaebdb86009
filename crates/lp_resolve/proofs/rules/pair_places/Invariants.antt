use Rattle.std.proofs.Common.{◌≡◌, map, take}
use Rattle.lp_resolve.proofs.rules.pair_places.Given as goal

abbrev pub invariant-loop-pair : goal.invariant-loop-pair
invariant-loop-pair l = l.places ≡ map (λ p. p.left.place) (take l.pair-index l.pairs)
