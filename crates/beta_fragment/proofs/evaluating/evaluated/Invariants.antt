use Rattle.std.proofs.Common.{◌≤◌, length, reverse, drop}
use Rattle.level_terms.specs.Reading.{read}
use Rattle.ref_terms.specs.unification.Spine.{apply_all}
use Rattle.beta_fragment.specs.Names.{renamed}
use Rattle.beta_fragment.specs.HeadForm.{all_read}
use Rattle.beta_fragment.specs.Quoted.{AllHeads, IsOpenHead}
use Rattle.beta_fragment.specs.inside.Cells.{terms_of, term_at, Gains, IsKept}
use Rattle.beta_fragment.proofs.evaluating.evaluated.Given as goal

abbrev pub invariant-loop-i : goal.invariant-loop-i
invariant-loop-i l = record {
  within : l.i ≤ length l.args;
  kept : IsKept (terms_of l.cells) l.r (apply_all (read l.heap l.fn.head.index (renamed l.levels)) (all_read l.heap (reverse (drop l.i l.args))));
  variables : AllHeads (IsOpenHead l.heap) (term_at (terms_of l.cells) l.r);
  gains : Gains (terms_of l.fn.cells) (terms_of l.cells);
}

abbrev pub decreases-loop-i : goal.decreases-loop-i
decreases-loop-i l = l.i
