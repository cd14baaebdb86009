use Rattle.std.proofs.Common.{◌≡◌, map, drop}
use Rattle.level_terms.specs.Gains.{GainsNodes}
use Rattle.beta_fragment.specs.HeadForm.{all_read}
use Rattle.ref_terms.specs.search.Fault.{Good, judged_append}
use Rattle.ref_terms.specs.search.RuleInstance.{clauses_of_items}
use Rattle.hyp_clause.specs.Hyps.{assumption_in, AllHypsValid}
use Rattle.hyp_context.specs.Contexts.{AllWithinDepth}
use Rattle.sequent_rules.proofs.bodies.clauses_of_items.Given as goal

-- the clauses of the terms up to here, before those that are left
abbrev pub invariant-loop-i : goal.invariant-loop-i
invariant-loop-i l = record {
  gains : GainsNodes l.fn.heap l.heap;
  valid : AllHypsValid l.heap l.all;
  within : AllWithinDepth l.depth l.all;
  left : clauses_of_items l.depth (all_read l.fn.heap l.terms) ≡ judged_append (Good (map (assumption_in l.heap) l.all)) (clauses_of_items l.depth (drop l.i (all_read l.fn.heap l.terms)));
}
