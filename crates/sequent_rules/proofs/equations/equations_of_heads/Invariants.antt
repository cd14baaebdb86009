use Rattle.std.proofs.Common.{◌≡◌, ℕ, ◌++◌}
use Rattle.level_terms.specs.Gains.{GainsNodes}
use Rattle.ref_terms.specs.search.Program.{Rule}
use Rattle.ref_terms.specs.search.RuleMatch.{heads_of, match_equations}
use Rattle.sequent_rules.specs.inside.Equations.{equations_in, AllEquationsValid}
use Rattle.sequent_rules.specs.inside.Heads.{equations_from}
use Rattle.sequent_rules.specs.inside.Matched.{IsTuple}
use Rattle.sequent_rules.specs.inside.Tuples.{tuple_in}
use Rattle.sequent_rules.proofs.equations.equations_of_heads.Given as goal

-- the equations up to here, before those of the heads that are left
abbrev pub invariant-loop-i : goal.invariant-loop-i
invariant-loop-i l = record {
  gains : GainsNodes l.fn.heap l.heap;
  valid : AllEquationsValid l.heap l.tuple.joint.now.depth l.equations.items;
  left : (next : ℕ) (r : Rule) → IsTuple l.fn.heap l.tuple next r → equations_in l.heap l.tuple.joint.now.depth l.equations.items ++ equations_from r next l.fn.heap l.tuple l.i
      ≡ match_equations r l.tuple.joint.now.depth next (heads_of r) l.tuple.joint.now.maps.items (tuple_in l.fn.heap l.tuple.store.now l.tuple.ids.now);
}
