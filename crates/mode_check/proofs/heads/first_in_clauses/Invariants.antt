use Rattle.std.proofs.Common.{◌≡◌, take, flat_map}
use Rattle.lp_resolve.specs.StaticRules.{clause_head, head_breaches, first_of}
use Rattle.mode_check.proofs.heads.first_in_clauses.Given as goal

abbrev pub invariant-loop-clause : goal.invariant-loop-clause
invariant-loop-clause l = l.found ≡ first_of (flat_map (λ c. head_breaches l.preds (clause_head c)) (take l.clause-index l.clauses))
