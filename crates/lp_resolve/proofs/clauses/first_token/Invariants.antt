use Rattle.std.proofs.Common.{◌≡◌}
use Rattle.lp_resolve.specs.Places.{first_token}
use Rattle.lp_resolve.proofs.clauses.first_token.Given as goal

abbrev pub invariant-loop-rest : goal.invariant-loop-rest
invariant-loop-rest l = first_token l.term ≡ first_token l.rest
