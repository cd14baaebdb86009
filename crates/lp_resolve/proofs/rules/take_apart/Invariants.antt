use Rattle.std.proofs.Common.{◌≡◌, ◌++◌, map}
use Rattle.lp_resolve.proofs.rules.take_apart.Given as goal

abbrev pub invariant-loop-placed : goal.invariant-loop-placed
invariant-loop-placed l = record {
  trees : l.trees ≡ map (λ h. h.head) l.yielded;
  places : l.places ≡ l.initial.places ++ map (λ h. h.place) l.yielded;
  vars : l.vars ≡ l.initial.vars ++ map (λ h. h.vars) l.yielded;
}
