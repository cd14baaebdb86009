use Rattle.std.proofs.Common.{reverse, ap, ◌∙◌}
use Rattle.search_moves.specs.World.{code_nodes}
use Rattle.search_moves.specs.Machine.{alternatives_of}
use Rattle.search_moves.proofs.CodeLemmas.{code-grown}
use Rattle.search_moves.proofs.SavedLemmas.{all-kept, all-read-kept}
use Rattle.search_moves.proofs.GrowLemmas.{grow-keeps, grow-fine, no-notes}
use Rattle.search_moves.proofs.machine.Machine.assumed_instance.Goals as goal

pub invariant_of-self : goal.invariant_of-self
invariant_of-self c =
    let w = c.self.inside.stage in
    let w' = c.assumed_instance.new.self in
    let saved = reverse c.self.inside.choices in
    let grows = no-notes w.heap w'.heap c.assumed_instance.ensures.grows in
    record {
      fine = grow-fine w w' c.self.inside.first c.is_sound.ensures grows c.assumed_instance.ensures.rest c.self.invariant.fine;
      saved = all-kept w w' saved c.self.invariant.saved (grow-keeps w w' saved grows c.assumed_instance.ensures.rest c.self.invariant.saved);
    }

pub returns-clause-alternatives : goal.returns-clause-alternatives
returns-clause-alternatives c = λ p.
    let w = c.self.inside.stage in
    let w' = c.assumed_instance.new.self in
    let saved = reverse c.self.inside.choices in
    all-read-kept p w w' saved c.self.invariant.saved (grow-keeps w w' saved (no-notes w.heap w'.heap c.assumed_instance.ensures.grows) c.assumed_instance.ensures.rest c.self.invariant.saved)
    ∙ ap (alternatives_of p) c.self.view_is

pub returns-clause-code : goal.returns-clause-code
returns-clause-code c =
    code-grown c.self.inside.stage c.assumed_instance.new.self c.self.inside.first (no-notes c.self.inside.stage.heap c.assumed_instance.new.self.heap c.assumed_instance.ensures.grows) c.assumed_instance.ensures.rest c.self.invariant.fine
    ∙ ap (λ m. code_nodes m.world) c.self.view_is
