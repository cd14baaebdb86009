use Rattle.std.proofs.Common.{◌≡◌, false, reverse, sym, ap, ◌∙◌, subst}
use Rattle.ref_terms.specs.search.RuleInstance.{is_fired}
use Rattle.suspend.specs.Store.{fires, firings}
use Rattle.search_moves.specs.Reading.{firing_of}
use Rattle.search_moves.specs.Machine.{alternatives_of, branch_of}
use Rattle.search_moves.proofs.SavedLemmas.{all-kept, all-read-kept}
use Rattle.search_moves.proofs.StoreLemmas.{log-keeps}
use Rattle.search_moves.proofs.FiringLemmas.{fired-as, noted-fine}
use Rattle.search_moves.proofs.machine.Machine.note_firing.Goals as goal

pub note_firing-requires : goal.note_firing-requires
note_firing-requires c =
    sym (fired-as (firings c.self.inside.stage.log) c.args.pair) ∙ subst (λ m. is_fired (firing_of c.args.pair) (branch_of m).fired ≡ false) (sym c.self.view_is) c.requires

pub invariant_of-self-2 : goal.invariant_of-self-2
invariant_of-self-2 c =
    let w = c.self.inside.stage in
    let w' = c.note_firing.new.self in
    let saved = reverse c.self.inside.choices in
    let is = c.in_ok-note_firing.ensures.ok in
    record {
      fine = noted-fine w w' c.args.pair c.self.inside.first is c.self.invariant.fine;
      saved = all-kept w w' saved c.self.invariant.saved (log-keeps w w' (fires c.args.pair) saved is c.self.invariant.saved);
    }

pub returns-clause-alternatives : goal.returns-clause-alternatives
returns-clause-alternatives c = λ p.
    let w = c.self.inside.stage in
    let w' = c.note_firing.new.self in
    let saved = reverse c.self.inside.choices in
    all-read-kept p w w' saved c.self.invariant.saved (log-keeps w w' (fires c.args.pair) saved c.in_ok-note_firing.ensures.ok c.self.invariant.saved)
    ∙ ap (alternatives_of p) c.self.view_is
