use Rattle.std.proofs.Common.{◌≡◌, map, take}
use Rattle.lp_resolve.specs.Places.{first_token}
use Rattle.lp_resolve.proofs.rules.test_places.Given as goal

abbrev pub invariant-loop-test : goal.invariant-loop-test
invariant-loop-test l = l.places ≡ map first_token (take l.test-index l.tests)
