use Rattle.std.proofs.Common.{sym, ap, ◌∙◌}
use Rattle.ref_terms.specs.search.Branch.{Branch}
use Rattle.search_moves.specs.Machine.{branch_of}
use Rattle.search_moves.specs.Waking.{first_up}
use Rattle.search_moves.proofs.WakingLemmas.{none-up}
use Rattle.search_moves.proofs.machine.Machine.next_woken.Goals as goal

pub withdraw-requires : goal.withdraw-requires
withdraw-requires c = ap (λ (b : Branch). first_up b.store) c.awake.ensures.branch ∙ sym c.in_ok-id.ensures.first ∙ c.in-Some.is

pub returns-in-None-clause-woken : goal.returns-in-None-clause-woken
returns-in-None-clause-woken c = record { none = none-up (branch_of c.args.self.now).store (sym c.in_ok-id.ensures.first ∙ c.in-None.is); branch = c.awake.ensures.branch }
