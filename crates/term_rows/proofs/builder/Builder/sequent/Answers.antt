use Rattle.std.proofs.Common.{◌≤◌, List, map, ◌∙◌, sym, ap, subst, arith}
use Rattle.std.specs.List.{All}
use Rattle.std.proofs.lemmas.List.Elements.{All-same, All-weaker}
use Rattle.level_terms.specs.declared.node.TermId.{TermId}
use Rattle.level_terms.proofs.ValidLemmas.{valid_deeper}
use Rattle.beta_fragment.specs.HeadForm.{AllValidAt}
use Rattle.term_rows.specs.declared.builder.Item.{Item}
use Rattle.term_rows.proofs.BuildLemmas.{items-kept, stays-unassigned, all-valid}
use Rattle.term_rows.proofs.builder.Builder.sequent.Goals as goal

pub print_sequent-requires-clause-hyps : goal.print_sequent-requires-clause-hyps
print_sequent-requires-clause-hyps c =
    let items : List Item = c.pop.new.self.items.items in
    let bounded : All (λ (it : Item). it.least ≤ c.deepest.result) items = All-same (λ (it : Item). it.least ≤ c.deepest.result) items c.as_slice.result.now (sym c.as_slice.ensures.value) c.deepest.ensures in
    let deep : All (λ (it : Item). it.least ≤ c.args.depth) items = All-weaker (λ (it : Item). it.least ≤ c.deepest.result) (λ (it : Item). it.least ≤ c.args.depth) (λ it p. omega (arith, p)) items bounded in
    subst (λ (ts : List TermId). AllValidAt c.pop.new.self.heap ts c.args.depth)
    (sym (c.as_slice-3.ensures.value ∙ c.in_ok-hyps.ensures ∙ ap (λ (xs : List Item). map (λ (it : Item). it.node) xs) c.as_slice-2.ensures.value))
    (all-valid {X = Item} (λ it. it.node) (λ it. it.least) c.pop.new.self.heap c.args.depth items c.pop.new.self.valid deep)

pub print_sequent-requires-clause-goal : goal.print_sequent-requires-clause-goal
print_sequent-requires-clause-goal c = valid_deeper c.pop.new.self.heap c.in_ok-goal.goal.node.index c.in_ok-goal.goal.least c.args.depth c.in_ok-goal.ensures.valid c.if-goal-depth.false

pub invariant_of-self : goal.invariant_of-self
invariant_of-self c = record {
  valid = items-kept {X = Item} (λ it. it.node.index) (λ it. it.least) c.pop.new.self.heap c.print_sequent.new.heap c.is_sound.ensures c.print_sequent.ensures.grows c.pop.new.self.items.items c.pop.new.self.valid;
  unassigned = stays-unassigned c.pop.new.self.heap c.print_sequent.new.heap c.print_sequent.ensures.grows c.pop.new.self.unassigned;
}
