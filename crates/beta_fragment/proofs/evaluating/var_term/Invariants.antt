use Rattle.level_terms.specs.Reading.{levels}
use Rattle.ref_terms.specs.terms.Term.{At, Var}
use Rattle.ref_terms.specs.unification.Spine.{apply_all}
use Rattle.beta_fragment.specs.inside.Cells.{terms_of, Gains, IsKept}
use Rattle.beta_fragment.specs.inside.Evaluation.{entries_env}
use Rattle.beta_fragment.proofs.evaluating.var_term.Given as goal

abbrev pub invariant-loop-level : goal.invariant-loop-level
invariant-loop-level l = record {
  kept : IsKept (terms_of l.cells) l.r (apply_all (At (Var l.fn.v.index)) (levels l.level (entries_env l.entries l.under)));
  gains : Gains (terms_of l.fn.cells) (terms_of l.cells);
}
