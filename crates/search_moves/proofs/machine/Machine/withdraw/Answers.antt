use Rattle.std.proofs.Common.{◌≡◌, Some, reverse, refl, sym, ap, ◌∙◌, subst}
use Rattle.suspend.specs.Store.{leaves, stored}
use Rattle.search_moves.specs.Machine.{Machine, alternatives_of, branch_of}
use Rattle.search_moves.specs.Waking.{first_up, WakesOne}
use Rattle.search_moves.proofs.SavedLemmas.{all-kept, all-read-kept}
use Rattle.search_moves.proofs.WakingLemmas.{first-up_stored}
use Rattle.search_moves.proofs.StoreLemmas.{log-keeps, leave-fine, withdrawn-wakes}
use Rattle.search_moves.proofs.machine.Machine.withdraw.Goals as goal

pub withdraw-requires : goal.withdraw-requires
withdraw-requires c =
    let w = c.self.inside.stage in
    first-up_stored w.heap (stored w.log) c.args.id (subst (λ m. first_up (branch_of m).store ≡ Some c.args.id) (sym c.self.view_is) c.requires)

pub invariant_of-self-2 : goal.invariant_of-self-2
invariant_of-self-2 c =
    let w = c.self.inside.stage in
    let w' = c.withdraw.new.self in
    let saved = reverse c.self.inside.choices in
    let is = c.in_ok-goal.ensures.ok in
    record {
      fine = leave-fine w w' c.args.id c.self.inside.first is c.self.invariant.fine;
      saved = all-kept w w' saved c.self.invariant.saved (log-keeps w w' (leaves c.args.id) saved is c.self.invariant.saved);
    }

pub returns-clause-woken : goal.returns-clause-woken
returns-clause-woken c =
    let w = c.self.inside.stage in
    let m : Machine = record { world = w; first = c.self.inside.first; saved = reverse c.self.inside.choices; phase = c.self.inside.phase } in
    let m' : Machine = record { world = c.withdraw.new.self; first = c.self.inside.first; saved = reverse c.self.inside.choices; phase = c.self.inside.phase } in
    let found = c.in_ok-goal.ensures.goal in
    subst (λ z. WakesOne c.args.barrier z m' c.in_ok-goal.goal) c.self.view_is
    (withdrawn-wakes m m' c.args.barrier c.args.id c.in_ok-goal.goal found.0 c.self.invariant.fine (subst (λ z. first_up (branch_of z).store ≡ Some c.args.id) (sym c.self.view_is) c.requires) found.1 found.2 c.in_ok-goal.ensures.ok refl)

pub returns-clause-alternatives : goal.returns-clause-alternatives
returns-clause-alternatives c = λ p.
    let w = c.self.inside.stage in
    let w' = c.withdraw.new.self in
    let saved = reverse c.self.inside.choices in
    all-read-kept p w w' saved c.self.invariant.saved (log-keeps w w' (leaves c.args.id) saved c.in_ok-goal.ensures.ok c.self.invariant.saved)
    ∙ ap (alternatives_of p) c.self.view_is
