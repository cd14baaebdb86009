use Rattle.std.proofs.Common.{◌≡◌, ◌∙◌, ℕ, suc, ◌+◌, ◌≤◌, true, false, None, List, [], take, drop, get_or, length, refl, sym, subst, arith}
use Rattle.std.proofs.lemmas.List.{length-map}
use Rattle.level_terms.specs.declared.node.TermId.{TermId}
use Rattle.level_terms.specs.Reading.{read}
use Rattle.level_terms.proofs.GainLemmas.{gains-refl, gains-trans}
use Rattle.beta_fragment.specs.Names.{names}
use Rattle.ref_terms.specs.search.RuleMatch.{fit_heads}
use Rattle.sequent_rules.specs.declared.rules.HeadShape.{HeadShape}
use Rattle.sequent_rules.specs.inside.Fitting.{IsFit, AreArguments}
use Rattle.sequent_rules.specs.inside.Tuples.{tuple_in}
use Rattle.sequent_rules.proofs.PlaceLemmas.{fit-end}
use Rattle.sequent_rules.proofs.TakenLemmas.{goal-valid, fits-or, more-arguments, taken-whole}
use Rattle.sequent_rules.proofs.heads.fit_all.Goals as goal

-- what an index past the end would give
abbrev none : HeadShape
none = record { context = None; pred = record { 0 = 0 }; arity = 0 }

pub loop-i-init : goal.loop-i-init
loop-i-init c = record {
  gains = gains-refl c.args.heap.now;
  args = subst (λ (tss : List (List TermId)). AreArguments c.args.heap.now tss []) (sym c.new-all.ensures.items) tt;
  left = λ n hs a. refl;
}

pub fit_one-requires : goal.fit_one-requires
fit_one-requires c =
    goal-valid c.args.heap.now c.loop-i.heap c.args.store.now c.args.ids.now c.loop-i.i c.loop-i-test.true c.get-constraint.result.now c.get-constraint.ensures c.is_sound.ensures c.loop-i.invariant.gains c.requires.constraints

pub returns-in_err-args-clause-gains : goal.returns-in_err-args-clause-gains
returns-in_err-args-clause-gains c = gains-trans c.args.heap.now c.loop-i.heap c.fit_one.new.heap c.loop-i.invariant.gains c.fit_one.ensures.gains

pub returns-in_err-push-in-Some-clause-gains : goal.returns-in_err-push-in-Some-clause-gains
returns-in_err-push-in-Some-clause-gains c = gains-trans c.args.heap.now c.loop-i.heap c.fit_one.new.heap c.loop-i.invariant.gains c.fit_one.ensures.gains

pub returns-in-None-clause-gains : goal.returns-in-None-clause-gains
returns-in-None-clause-gains c = gains-trans c.args.heap.now c.loop-i.heap c.fit_one.new.heap c.loop-i.invariant.gains c.fit_one.ensures.gains

pub returns-in-None-clause-fit : goal.returns-in-None-clause-fit
returns-in-None-clause-fit c = λ n hs a.
    fits-or c.args.heap.now c.loop-i.heap c.args.store.now c.args.ids.now c.loop-i.i c.loop-i-test.true c.get-constraint.result.now c.get-constraint.ensures c.is_sound.ensures c.loop-i.invariant.gains c.requires.constraints
    c.args.heads.now none n hs false c.requires.as_many a (c.loop-i.invariant.left n hs a)
    (subst (IsFit c.fit_one.new.heap c.get-constraint.result.now.names (get_or c.args.heads.now c.loop-i.i none) (read c.loop-i.heap c.get-constraint.result.now.goal.index names)) c.in-None.is c.in_ok-args.ensures.fit)

pub loop-i-preserved : goal.loop-i-preserved
loop-i-preserved c =
    let g = c.args.heap.now in
    let log = c.args.store.now in
    let ns = c.args.ids.now in
    let con = c.get-constraint.result.now in
    let next : suc c.loop-i.i ≡ c.loop-i.i + 1 = omega arith in
    let fit = subst (IsFit c.fit_one.new.heap con.names (get_or c.args.heads.now c.loop-i.i none) (read c.loop-i.heap con.goal.index names)) c.in-Some.is c.in_ok-args.ensures.fit in
    record {
      gains = gains-trans g c.loop-i.heap c.fit_one.new.heap c.loop-i.invariant.gains c.fit_one.ensures.gains;
      args = subst (λ (k : ℕ). AreArguments c.fit_one.new.heap c.push.new.self.items (take k (tuple_in g log ns))) next
          (more-arguments g c.loop-i.heap log ns c.loop-i.i c.loop-i-test.true con c.get-constraint.ensures c.is_sound.ensures c.loop-i.invariant.gains c.requires.constraints
          c.fit_one.new.heap c.loop-i.all.items c.push.new.self.items c.in-Some.args c.is_sound-in-loop-i.ensures c.fit_one.ensures.gains c.loop-i.invariant.args fit.1 c.in_ok-push-in-Some.ensures.items);
      left = λ n hs a. subst (λ (k : ℕ). fit_heads hs (tuple_in g log ns) ≡ fit_heads (drop k hs) (drop k (tuple_in g log ns))) next
          (fits-or g c.loop-i.heap log ns c.loop-i.i c.loop-i-test.true con c.get-constraint.ensures c.is_sound.ensures c.loop-i.invariant.gains c.requires.constraints
          c.args.heads.now none n hs true c.requires.as_many a (c.loop-i.invariant.left n hs a) fit.0);
    }

pub returns-clause-fit : goal.returns-clause-fit
returns-clause-fit c =
    let g = c.args.heap.now in
    let tuple = tuple_in g c.args.store.now c.args.ids.now in
    let many : length tuple ≡ length c.args.ids.now = length-map c.args.ids.now _ in
    let done : length tuple ≤ c.loop-i.i = omega (arith, many, c.loop-i-test.false) in
    λ n hs a. (c.loop-i.invariant.left n hs a ∙ fit-end hs tuple c.loop-i.i done, subst (AreArguments c.loop-i.heap c.loop-i.all.items) (taken-whole tuple c.loop-i.i done) c.loop-i.invariant.args)
