use Rattle.std.proofs.Common.{◌≡◌, true, reverse, sym, ap, ◌∙◌, subst}
use Rattle.suspend.specs.Store.{leaves, stored}
use Rattle.search_moves.specs.Firing.{has_number, without_number}
use Rattle.search_moves.specs.Machine.{alternatives_of, branch_of}
use Rattle.search_moves.proofs.SavedLemmas.{all-kept, all-read-kept}
use Rattle.search_moves.proofs.StoreLemmas.{log-keeps, leave-fine}
use Rattle.search_moves.proofs.FiringLemmas.{stored-number, leave-reads}
use Rattle.search_moves.proofs.machine.Machine.remove.Goals as goal

pub remove-requires : goal.remove-requires
remove-requires c =
    let w = c.self.inside.stage in
    sym (stored-number w.heap (stored w.log) c.args.id) ∙ subst (λ m. has_number (branch_of m).store c.args.id ≡ true) (sym c.self.view_is) c.requires

pub invariant_of-self-2 : goal.invariant_of-self-2
invariant_of-self-2 c =
    let w = c.self.inside.stage in
    let w' = c.remove.new.self in
    let saved = reverse c.self.inside.choices in
    let is = c.in_ok-remove.ensures.ok in
    record {
      fine = leave-fine w w' c.args.id c.self.inside.first is c.self.invariant.fine;
      saved = all-kept w w' saved c.self.invariant.saved (log-keeps w w' (leaves c.args.id) saved is c.self.invariant.saved);
    }

pub returns-clause-branch : goal.returns-clause-branch
returns-clause-branch c =
    leave-reads c.self.inside.stage c.remove.new.self c.args.id c.self.inside.first c.in_ok-remove.ensures.ok
    ∙ ap (λ m. record (branch_of m) { store = without_number c.args.id (branch_of m).store }) c.self.view_is

pub returns-clause-alternatives : goal.returns-clause-alternatives
returns-clause-alternatives c = λ p.
    let w = c.self.inside.stage in
    let w' = c.remove.new.self in
    let saved = reverse c.self.inside.choices in
    all-read-kept p w w' saved c.self.invariant.saved (log-keeps w w' (leaves c.args.id) saved c.in_ok-remove.ensures.ok c.self.invariant.saved)
    ∙ ap (alternatives_of p) c.self.view_is
