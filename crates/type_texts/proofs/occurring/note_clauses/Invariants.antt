use Rattle.std.proofs.Common.{◌≡◌, take, flat_map}
use Rattle.type_texts.specs.TypeText.{noted_all}
use Rattle.type_texts.specs.Occurring.{clause_constants}
use Rattle.type_texts.proofs.occurring.note_clauses.Given as goal

abbrev pub invariant-loop-clause : goal.invariant-loop-clause
invariant-loop-clause l = l.constants.keys ≡ noted_all l.fn.constants.keys (flat_map clause_constants (take l.clause-index l.clauses))
