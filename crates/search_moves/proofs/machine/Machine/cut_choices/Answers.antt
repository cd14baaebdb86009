use Rattle.std.proofs.Common.{◌≤◌, length, ap, ◌∙◌, arith}
use Rattle.ref_terms.specs.search.BranchMove.{cut_to}
use Rattle.search_moves.specs.Machine.{alternatives_of}
use Rattle.search_moves.proofs.MachineLemmas.{cut-saved, cut-saved_reads}
use Rattle.search_moves.proofs.machine.Machine.cut_choices.Goals as goal

pub invariant_of-self : goal.invariant_of-self
invariant_of-self c =
    let few : c.args.barrier ≤ length c.self.inside.choices = omega (arith, c.if-barrier-len.true, c.len.ensures) in
    record { fine = c.self.invariant.fine; saved = cut-saved c.self.inside.stage c.args.barrier c.self.inside.choices c.cut_to.new.self c.cut_to.ensures few c.self.invariant.saved }

pub returns-then-barrier-len-clause-alternatives : goal.returns-then-barrier-len-clause-alternatives
returns-then-barrier-len-clause-alternatives c = λ p.
    let few : c.args.barrier ≤ length c.self.inside.choices = omega (arith, c.if-barrier-len.true, c.len.ensures) in
    cut-saved_reads p c.self.inside.stage c.args.barrier c.self.inside.choices c.cut_to.new.self c.cut_to.ensures few
    ∙ ap (λ m. cut_to c.args.barrier (alternatives_of p m)) c.self.view_is
