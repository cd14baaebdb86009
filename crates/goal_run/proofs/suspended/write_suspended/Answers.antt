use Rattle.std.proofs.Common.{[], List, sym, subst, ◌∙◌}
use Rattle.level_terms.specs.declared.node.TermId.{TermId}
use Rattle.level_terms.proofs.GrowthLemmas.{grows-refl}
use Rattle.ref_terms.specs.texts.Answer.{sequent_parts}
use Rattle.term_print.specs.Sequents.{IsSequent}
use Rattle.goal_run.proofs.SuspendedLemmas.{suspended-written}
use Rattle.goal_run.proofs.suspended.write_suspended.Goals as goal

pub returns-in_err-assumed-clause-grows : goal.returns-in_err-assumed-clause-grows
returns-in_err-assumed-clause-grows c = grows-refl c.args.heap.now []

pub returns-in_err-push_slice-clause-grows : goal.returns-in_err-push_slice-clause-grows
returns-in_err-push_slice-clause-grows c = grows-refl c.args.heap.now []

pub returns-clause-writes : goal.returns-clause-writes
returns-clause-writes c = λ s shows.
    let suspended = c.args.suspended.now in
    let is : IsSequent c.args.heap.now suspended.names c.as_slice.result.now suspended.goal s =
    subst (λ (hyps : List TermId). IsSequent c.args.heap.now suspended.names hyps suspended.goal s) (sym (c.as_slice.ensures.value ∙ c.in_ok-assumed.ensures)) shows in
    suspended-written c.args.text.now c.push_slice.new.self c.print_sequent.new.out c.push_slice-2.new.self c.args.namer.now c.print_sequent.new.namer (sequent_parts c.args.symbols.now s)
    c.in_ok-push_slice.ensures.ok (c.in_ok-print_sequent.ensures.text s is) (c.in_ok-print_sequent.ensures.seen s is) c.in_ok-push_slice-2.ensures.ok
