use Rattle.std.proofs.Common.{◌≡◌, ◌++◌, ◌-◌, not, nat_eq}
use Rattle.std.specs.List.{filter}
use Rattle.ref_terms.specs.unification.Closing.{up_from}
use Rattle.ref_terms.specs.unification.Positions.{all_but}
use Rattle.pattern_unify.proofs.positions.all_but.Given as goal

abbrev pub invariant-loop-k : goal.invariant-loop-k
invariant-loop-k l = l.kept.items ++ filter (λ k. not (nat_eq l.position k)) (up_from l.k (l.arity - l.k)) ≡ all_but l.position l.arity
