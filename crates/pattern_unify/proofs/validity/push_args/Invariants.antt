use Rattle.std.proofs.Common.{◌≡◌, ◌++◌, map, take}
use Rattle.pattern_unify.specs.Places.{place_at}
use Rattle.pattern_unify.proofs.validity.push_args.Given as goal

abbrev pub invariant-loop-arg : goal.invariant-loop-arg
invariant-loop-arg l = l.work.items ≡ l.fn.work.items ++ map (place_at l.innermost) (take l.arg-index l.args)
