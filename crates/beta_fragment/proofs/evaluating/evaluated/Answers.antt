use Rattle.std.proofs.Common.{◌≡◌, ◌<◌, ◌-◌, suc, length, reverse, drop, get_or, ap, sym, ◌∙◌, subst, arith, refl}
use Rattle.level_terms.specs.Valid.{IsValid}
use Rattle.level_terms.specs.Reading.{read}
use Rattle.ref_terms.specs.terms.Term.{Term}
use Rattle.ref_terms.specs.unification.Spine.{apply_all}
use Rattle.beta_fragment.specs.Names.{renamed}
use Rattle.beta_fragment.specs.HeadForm.{all_read}
use Rattle.beta_fragment.specs.inside.Cells.{terms_of, term_at, IsKept}
use Rattle.beta_fragment.specs.Quoted.{AllHeads, IsOpenHead}
use Rattle.beta_fragment.proofs.CellLemmas.{gains-trans, gains-longer, gains-at}
use Rattle.beta_fragment.proofs.OpenHeadLemmas.{heads-apply}
use Rattle.beta_fragment.proofs.ArgumentLemmas.{valid-turned, arg-applied, no-args, own-reads}
use Rattle.beta_fragment.proofs.evaluating.evaluated.Goals as goal

pub loop-i-init : goal.loop-i-init
loop-i-init c = record {
  within = omega arith;
  kept =
      subst (λ (t : Term). IsKept (terms_of c.evaluated_node.new.cells) c.in_ok-r.r t)
      (sym (no-args c.args.heap.now (read c.args.heap.now c.args.head.index (renamed c.args.levels.now)) c.args.args.now (length c.args.args.now) refl)) c.in_ok-r.ensures.reads;
  variables = c.in_ok-r.ensures.variables;
  gains = c.in_ok-r.ensures.gains;
}

pub evaluated_node-requires-in-loop-i : goal.evaluated_node-requires-in-loop-i
evaluated_node-requires-in-loop-i c =
    let lt : c.loop-i.i - 1 < length c.args.args.now = omega (arith, c.loop-i.invariant.within, c.loop-i-test.true) in
    subst (λ d. IsValid c.args.heap.now (get_or c.args.args.now (c.loop-i.i - 1) (record { index = 0 })).index d) (sym c.own-inner.ensures.count)
    (valid-turned c.args.heap.now c.args.depth c.args.args.now (c.loop-i.i - 1) (record { index = 0 }) lt c.requires.args)

pub returns-in_err-a-clause-gains : goal.returns-in_err-a-clause-gains
returns-in_err-a-clause-gains c = gains-trans (terms_of c.args.cells.now) (terms_of c.loop-i.cells) (terms_of c.evaluated_node-in-loop-i.new.cells) c.loop-i.invariant.gains c.evaluated_node-in-loop-i.ensures.gains

pub applied_term-requires-clause-function : goal.applied_term-requires-clause-function
applied_term-requires-clause-function c = gains-longer (terms_of c.loop-i.cells) (terms_of c.evaluated_node-in-loop-i.new.cells) c.in_ok-a.ensures.gains c.loop-i.r c.loop-i.invariant.kept.there

pub returns-in_err-r-2-clause-gains : goal.returns-in_err-r-2-clause-gains
returns-in_err-r-2-clause-gains c =
    gains-trans (terms_of c.args.cells.now) (terms_of c.loop-i.cells) (terms_of c.applied_term.new.cells) c.loop-i.invariant.gains
    (gains-trans (terms_of c.loop-i.cells) (terms_of c.evaluated_node-in-loop-i.new.cells) (terms_of c.applied_term.new.cells) c.in_ok-a.ensures.gains c.applied_term.ensures.gains)

pub loop-i-preserved : goal.loop-i-preserved
loop-i-preserved c =
    let lt : c.loop-i.i - 1 < length c.args.args.now = omega (arith, c.loop-i.invariant.within, c.loop-i-test.true) in
    let up : c.loop-i.i ≡ suc (c.loop-i.i - 1) = omega (arith, c.loop-i-test.true) in
    let stays = gains-at (terms_of c.loop-i.cells) (terms_of c.evaluated_node-in-loop-i.new.cells) c.in_ok-a.ensures.gains c.loop-i.r c.loop-i.invariant.kept.there in
    record {
      within = omega (arith, c.loop-i.invariant.within);
      kept = record {
        there = c.in_ok-r-2.ensures.applied.there;
        term =
            arg-applied c.args.heap.now (read c.args.heap.now c.args.head.index (renamed c.args.levels.now)) c.args.args.now (c.loop-i.i - 1) (record { index = 0 })
            (term_at (terms_of c.evaluated_node-in-loop-i.new.cells) c.loop-i.r) (term_at (terms_of c.applied_term.new.cells) c.in_ok-r-2.r) (term_at (terms_of c.evaluated_node-in-loop-i.new.cells) c.in_ok-a.a) lt
            (stays ∙ c.loop-i.invariant.kept.term ∙ ap (λ n. apply_all (read c.args.heap.now c.args.head.index (renamed c.args.levels.now)) (all_read c.args.heap.now (reverse (drop n c.args.args.now)))) up)
            (c.in_ok-a.ensures.reads.term
            ∙ own-reads c.args.heap.now (get_or c.args.args.now (c.loop-i.i - 1) (record { index = 0 })).index c.args.depth c.own-inner.result
            (valid-turned c.args.heap.now c.args.depth c.args.args.now (c.loop-i.i - 1) (record { index = 0 }) lt c.requires.args) c.own-inner.ensures.own)
            c.in_ok-r-2.ensures.applied.term;
      };
      variables =
          subst (AllHeads (IsOpenHead c.args.heap.now)) (sym c.in_ok-r-2.ensures.applied.term)
          (heads-apply (IsOpenHead c.args.heap.now) (term_at (terms_of c.evaluated_node-in-loop-i.new.cells) c.loop-i.r) (term_at (terms_of c.evaluated_node-in-loop-i.new.cells) c.in_ok-a.a)
          (subst (AllHeads (IsOpenHead c.args.heap.now)) (sym stays) c.loop-i.invariant.variables) c.in_ok-a.ensures.variables);
      gains =
          gains-trans (terms_of c.args.cells.now) (terms_of c.loop-i.cells) (terms_of c.applied_term.new.cells) c.loop-i.invariant.gains
          (gains-trans (terms_of c.loop-i.cells) (terms_of c.evaluated_node-in-loop-i.new.cells) (terms_of c.applied_term.new.cells) c.in_ok-a.ensures.gains c.in_ok-r-2.ensures.gains);
    }

pub returns-clause-reads : goal.returns-clause-reads
returns-clause-reads c =
    let none : c.loop-i.i ≡ 0 = omega (arith, c.loop-i-test.false) in
    subst (λ n. IsKept (terms_of c.loop-i.cells) c.loop-i.r (apply_all (read c.args.heap.now c.args.head.index (renamed c.args.levels.now)) (all_read c.args.heap.now (reverse (drop n c.args.args.now))))) none c.loop-i.invariant.kept

pub returns-clause-variables : goal.returns-clause-variables
returns-clause-variables c = c.loop-i.invariant.variables

pub returns-clause-gains : goal.returns-clause-gains
returns-clause-gains c = c.loop-i.invariant.gains
