use Rattle.std.proofs.Common.{◌≡◌, List, map, take}
use Rattle.ref_terms.specs.search.Program.{Clause}
use Rattle.clause_compile.specs.inside.Codes.{AreClauseCodes}
use Rattle.clause_compile.specs.inside.Keys.{AllHeadsBuilt, key_in}
use Rattle.clause_compile.proofs.keys.own_keys.Given as goal

abbrev pub invariant-loop-code : goal.invariant-loop-code
invariant-loop-code l = record {
  same : l.heap ≡ l.fn.heap;
  keys : (ks : List Clause) → AreClauseCodes l.fn.heap.nodes (take l.code-index l.codes) ks → AllHeadsBuilt ks → l.keys ≡ map (key_in l.preds) ks;
}
