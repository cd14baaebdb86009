use Rattle.std.proofs.Common.{◌≡◌, ◌<◌, Some, IfOk, length, slice_get, reverse, sym, ap, ◌∙◌, subst}
use Rattle.ref_terms.specs.search.Program.{Program, Clause}
use Rattle.search_moves.specs.World.{code_nodes}
use Rattle.search_moves.specs.Machine.{alternatives_of}
use Rattle.search_moves.specs.Instances.{IsInstanceOf}
use Rattle.search_moves.proofs.CodeLemmas.{code-grown}
use Rattle.search_moves.proofs.SavedLemmas.{all-kept, all-read-kept}
use Rattle.search_moves.proofs.GrowLemmas.{grow-keeps, grow-fine, no-notes}
use Rattle.search_moves.proofs.machine.Machine.instance.Goals as goal

pub invariant_of-self : goal.invariant_of-self
invariant_of-self g c =
    let w = c.self.inside.stage in
    let w' = c.instance.new.self in
    let saved = reverse c.self.inside.choices in
    let grows = no-notes w.heap w'.heap c.instance.ensures.grows in
    record {
      fine = grow-fine w w' c.self.inside.first c.is_sound.ensures grows c.instance.ensures.rest c.self.invariant.fine;
      saved = all-kept w w' saved c.self.invariant.saved (grow-keeps w w' saved grows c.instance.ensures.rest c.self.invariant.saved);
    }

pub returns-clause-made : goal.returns-clause-made
returns-clause-made g c =
    subst (λ m. IfOk c.instance.result (λ i. (p : Program) (k : Clause) → g.C.Clauses.stands (code_nodes m.world) c.args.code.now p → slice_get p.clauses c.args.clause ≡ Some k → IsInstanceOf k c.args.depth m.world.heap c.instance.new.self.heap i)) c.self.view_is c.instance.ensures.made

pub returns-clause-alternatives : goal.returns-clause-alternatives
returns-clause-alternatives g c = λ p.
    let w = c.self.inside.stage in
    let w' = c.instance.new.self in
    let saved = reverse c.self.inside.choices in
    all-read-kept p w w' saved c.self.invariant.saved (grow-keeps w w' saved (no-notes w.heap w'.heap c.instance.ensures.grows) c.instance.ensures.rest c.self.invariant.saved)
    ∙ ap (alternatives_of p) c.self.view_is

pub instance-requires-clause-base : goal.instance-requires-clause-base
instance-requires-clause-base g c = c.self.invariant.fine.code

pub instance-requires-clause-code : goal.instance-requires-clause-code
instance-requires-clause-code g c = subst (λ m. (p : Program) × (g.C.Clauses.stands (code_nodes m.world) c.args.code.now p) × (c.args.clause < length p.clauses)) (sym c.self.view_is) c.requires

pub returns-clause-code : goal.returns-clause-code
returns-clause-code g c =
    code-grown c.self.inside.stage c.instance.new.self c.self.inside.first (no-notes c.self.inside.stage.heap c.instance.new.self.heap c.instance.ensures.grows) c.instance.ensures.rest c.self.invariant.fine
    ∙ ap (λ m. code_nodes m.world) c.self.view_is
