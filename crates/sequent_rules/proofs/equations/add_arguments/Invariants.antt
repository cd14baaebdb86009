use Rattle.std.proofs.Common.{◌≡◌, ◌++◌, map, drop}
use Rattle.level_terms.specs.Gains.{GainsNodes}
use Rattle.beta_fragment.specs.HeadForm.{all_read}
use Rattle.ref_terms.specs.unification.Rules.{equations_of}
use Rattle.ref_terms.specs.search.Joint.{over_joint}
use Rattle.sequent_rules.specs.inside.Equations.{equations_in, AllEquationsValid}
use Rattle.sequent_rules.proofs.equations.add_arguments.Given as goal

-- the equations up to here, before those of the arguments that are left
abbrev pub invariant-loop-i : goal.invariant-loop-i
invariant-loop-i l = record {
  gains : GainsNodes l.fn.heap l.heap;
  valid : AllEquationsValid l.heap l.lifting.depth l.equations.items;
  left : equations_in l.heap l.lifting.depth l.equations.items ++ equations_of l.lifting.depth (drop l.i (all_read l.fn.heap l.patterns)) (drop l.i (map (over_joint l.lifting.map.now) (all_read l.fn.heap l.args)))
      ≡ equations_in l.fn.heap l.lifting.depth l.fn.equations.items ++ equations_of l.lifting.depth (all_read l.fn.heap l.patterns) (map (over_joint l.lifting.map.now) (all_read l.fn.heap l.args));
}
