use Rattle.std.proofs.Common.{◌≡◌, []}
use Rattle.ref_terms.specs.search.Assumption.{assumptions_of}
use Rattle.level_terms.specs.Reading.{read}
use Rattle.level_terms.specs.Growth.{Grows}
use Rattle.beta_fragment.specs.Names.{names}
use Rattle.hyp_clause.specs.Hyps.{AllHypsValid}
use Rattle.hyp_clause.specs.inside.Waiting.{waiting, whole, AreParts, sizes}
use Rattle.hyp_clause.proofs.compile.compile_hyp.Given as goal

abbrev pub invariant-loop-part : goal.invariant-loop-part
invariant-loop-part l = record {
  reads : whole l.heap l.depth l.hyps (waiting l.parts.items) ≡ assumptions_of l.depth (read l.fn.heap l.fn.t.index names);
  parts : AreParts l.heap l.depth (waiting l.parts.items);
  hyps : AllHypsValid l.heap l.hyps;
  variables : l.heap.depths ≡ l.fn.heap.depths;
  grows : Grows l.fn.heap l.heap [] [];
}

abbrev pub decreases-loop-part : goal.decreases-loop-part
decreases-loop-part l = sizes l.heap (waiting l.parts.items)
