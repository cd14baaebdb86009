use Rattle.std.proofs.Common.{◌≡◌, List, Option, IfOk, sym, subst}
use Rattle.level_terms.specs.declared.node.TermId.{TermId}
use Rattle.level_terms.proofs.GainLemmas.{gains-refl}
use Rattle.beta_fragment.specs.HeadForm.{all_read}
use Rattle.goal_form.proofs.SliceLemmas.{one-item, two-items}
use Rattle.ref_terms.specs.declared.reserved.Reserved.{Reserved}
use Rattle.ref_terms.specs.search.RuleTest.{test_holds}
use Rattle.sequent_rules.proofs.testing.word_holds.Goals as goal

pub returns-in-len1-clause-holds : goal.returns-in-len1-clause-holds
returns-in-len1-clause-holds c =
    let e = one-item c.args.args.now (record { index = 0 }) c.in-len1.len_at_least c.in-len1.len_below in
    subst (λ (o : Option Reserved). IfOk c.test_of_one.result (λ b. b ≡ test_holds o (all_read c.args.heap.now c.args.args.now))) c.of.ensures
    (subst (λ (xs : List TermId). IfOk c.test_of_one.result (λ b. b ≡ test_holds c.of.result (all_read c.args.heap.now xs))) (sym e) c.test_of_one.ensures.holds)

pub returns-in-len2-clause-holds : goal.returns-in-len2-clause-holds
returns-in-len2-clause-holds c =
    let e = two-items c.args.args.now (record { index = 0 }) c.in-len2.len_at_least c.in-len2.len_below in
    subst (λ (o : Option Reserved). IfOk c.test_of_two.result (λ b. b ≡ test_holds o (all_read c.args.heap.now c.args.args.now))) c.of-in-len2.ensures
    (subst (λ (xs : List TermId). IfOk c.test_of_two.result (λ b. b ≡ test_holds c.of-in-len2.result (all_read c.args.heap.now xs))) (sym e) c.test_of_two.ensures.holds)

pub returns-in_default-clause-gains : goal.returns-in_default-clause-gains
returns-in_default-clause-gains c = gains-refl c.args.heap.now

pub returns-in_default-2-clause-gains : goal.returns-in_default-2-clause-gains
returns-in_default-2-clause-gains c = gains-refl c.args.heap.now
