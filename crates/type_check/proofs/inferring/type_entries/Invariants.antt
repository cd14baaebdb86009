use Rattle.std.proofs.Common.{take}
use Rattle.type_terms.specs.Read.{declared_of}
use Rattle.type_terms.specs.Demands.{Meets}
use Rattle.type_check.specs.inside.Folded.{AreTyped}
use Rattle.type_check.proofs.inferring.type_entries.Given as goal

abbrev pub invariant-loop-entry : goal.invariant-loop-entry
invariant-loop-entry l = Meets l.fn.graph l.graph (AreTyped (declared_of l.declared) l.constants (take l.entry-index l.entries))
