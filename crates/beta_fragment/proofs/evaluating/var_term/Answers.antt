use Rattle.std.proofs.Common.{◌≡◌, ◌∙◌, subst, arith}
use Rattle.level_terms.specs.Reading.{levels}
use Rattle.ref_terms.specs.terms.Term.{At, Var}
use Rattle.ref_terms.specs.unification.Spine.{apply_all}
use Rattle.beta_fragment.specs.inside.Cells.{terms_of, term_at, IsKept}
use Rattle.beta_fragment.specs.inside.Evaluation.{entries_env}
use Rattle.beta_fragment.proofs.CellLemmas.{gains-trans, gains-longer, gains-at}
use Rattle.beta_fragment.proofs.ArgumentLemmas.{level-applied}
use Rattle.beta_fragment.proofs.evaluating.var_term.Goals as goal

pub loop-level-init : goal.loop-level-init
loop-level-init c = record { kept = c.in_ok-r.ensures.kept; gains = c.in_ok-r.ensures.gains }

pub returns-in_err-a-clause-gains : goal.returns-in_err-a-clause-gains
returns-in_err-a-clause-gains c = gains-trans (terms_of c.args.cells.now) (terms_of c.loop-level.cells) (terms_of c.level_term.new.cells) c.loop-level.invariant.gains c.level_term.ensures.gains

pub applied_term-requires-clause-function : goal.applied_term-requires-clause-function
applied_term-requires-clause-function c = gains-longer (terms_of c.loop-level.cells) (terms_of c.level_term.new.cells) c.in_ok-a.ensures.gains c.loop-level.r c.loop-level.invariant.kept.there

pub returns-in_err-r-2-clause-gains : goal.returns-in_err-r-2-clause-gains
returns-in_err-r-2-clause-gains c =
    gains-trans (terms_of c.args.cells.now) (terms_of c.loop-level.cells) (terms_of c.applied_term.new.cells) c.loop-level.invariant.gains
    (gains-trans (terms_of c.loop-level.cells) (terms_of c.level_term.new.cells) (terms_of c.applied_term.new.cells) c.in_ok-a.ensures.gains c.applied_term.ensures.gains)

pub loop-level-preserved : goal.loop-level-preserved
loop-level-preserved c =
    record {
      kept = record {
        there = c.in_ok-r-2.ensures.applied.there;
        term =
            level-applied (At (Var c.args.v.index)) c.loop-level.level (entries_env c.args.entries.now c.args.under)
            (term_at (terms_of c.level_term.new.cells) c.loop-level.r) (term_at (terms_of c.applied_term.new.cells) c.in_ok-r-2.r) (term_at (terms_of c.level_term.new.cells) c.in_ok-a.a)
            (gains-at (terms_of c.loop-level.cells) (terms_of c.level_term.new.cells) c.in_ok-a.ensures.gains c.loop-level.r c.loop-level.invariant.kept.there ∙ c.loop-level.invariant.kept.term)
            c.in_ok-a.ensures.kept.term
            c.in_ok-r-2.ensures.applied.term;
      };
      gains =
          gains-trans (terms_of c.args.cells.now) (terms_of c.loop-level.cells) (terms_of c.applied_term.new.cells) c.loop-level.invariant.gains
          (gains-trans (terms_of c.loop-level.cells) (terms_of c.level_term.new.cells) (terms_of c.applied_term.new.cells) c.in_ok-a.ensures.gains c.in_ok-r-2.ensures.gains);
    }

pub returns-clause-kept : goal.returns-clause-kept
returns-clause-kept c =
    let all : c.loop-level.level ≡ c.args.depth = omega (arith, c.loop-level.auto.level-end, c.loop-level-test.false) in
    subst (λ d. IsKept (terms_of c.loop-level.cells) c.loop-level.r (apply_all (At (Var c.args.v.index)) (levels d (entries_env c.args.entries.now c.args.under)))) all c.loop-level.invariant.kept

pub returns-clause-gains : goal.returns-clause-gains
returns-clause-gains c = c.loop-level.invariant.gains
