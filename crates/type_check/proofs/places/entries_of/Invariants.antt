use Rattle.std.proofs.Common.{◌++◌, map, take}
use Rattle.type_check.specs.Typings.{of_clause, of_rule}
use Rattle.type_check.specs.inside.Order.{AreEntries}
use Rattle.type_check.proofs.places.entries_of.Given as goal

abbrev pub invariant-loop-clause : goal.invariant-loop-clause
invariant-loop-clause l = AreEntries (map of_clause (take l.clause-index l.program.clauses)) l.entries.items

abbrev pub invariant-loop-rule : goal.invariant-loop-rule
invariant-loop-rule l = AreEntries (map of_clause l.program.clauses ++ map of_rule (take l.rule-index l.program.rules)) l.entries.items
