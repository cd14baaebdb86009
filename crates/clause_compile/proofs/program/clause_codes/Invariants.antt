use Rattle.std.proofs.Common.{◌≡◌, take, map, []}
use Rattle.level_terms.specs.Growth.{Grows}
use Rattle.lp_resolve.specs.Plain.{plain_clause}
use Rattle.clause_compile.specs.inside.Codes.{AreClauseCodes}
use Rattle.clause_compile.proofs.program.clause_codes.Given as goal

abbrev pub invariant-loop-clause : goal.invariant-loop-clause
invariant-loop-clause l = record {
  codes : AreClauseCodes l.heap.nodes l.codes (map plain_clause (take l.clause-index l.clauses));
  closed : l.heap.depths ≡ [];
  grows : Grows l.fn.heap l.heap [] [];
}
