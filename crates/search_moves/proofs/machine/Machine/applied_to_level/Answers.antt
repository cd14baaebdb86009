use Rattle.std.proofs.Common.{reverse, refl, sym, ap, ◌∙◌, subst}
use Rattle.search_moves.specs.Machine.{Machine, alternatives_of, branch_of, IsFirst}
use Rattle.search_moves.specs.World.{code_nodes}
use Rattle.search_moves.proofs.CodeLemmas.{code-grown}
use Rattle.search_moves.proofs.SavedLemmas.{all-kept, all-read-kept}
use Rattle.search_moves.proofs.GrowLemmas.{grow-keeps, grow-fine, no-notes, same-branch, first-grown}
use Rattle.search_moves.proofs.machine.Machine.applied_to_level.Goals as goal

pub invariant_of-self : goal.invariant_of-self
invariant_of-self c =
    let w = c.self.inside.stage in
    let w' = c.applied_to_level.new.self in
    let saved = reverse c.self.inside.choices in
    let g = no-notes w.heap w'.heap c.applied_to_level.ensures.grows in
    record {
      fine = grow-fine w w' c.self.inside.first c.is_sound.ensures g c.applied_to_level.ensures.rest c.self.invariant.fine;
      saved = all-kept w w' saved c.self.invariant.saved (grow-keeps w w' saved g c.applied_to_level.ensures.rest c.self.invariant.saved);
    }

pub returns-clause-first : goal.returns-clause-first
returns-clause-first c =
    let w = c.self.inside.stage in
    let w' = c.applied_to_level.new.self in
    let m : Machine = record { world = w; first = c.self.inside.first; saved = reverse c.self.inside.choices; phase = c.self.inside.phase } in
    let m' : Machine = record { world = w'; first = c.self.inside.first; saved = reverse c.self.inside.choices; phase = c.self.inside.phase } in
    first-grown m m' c.args.goal.now refl c.is_sound.ensures (no-notes w.heap w'.heap c.applied_to_level.ensures.grows) c.applied_to_level.ensures.rest (subst (λ z. IsFirst z c.args.goal.now) (sym c.self.view_is) c.requires.first)

pub returns-clause-branch : goal.returns-clause-branch
returns-clause-branch c =
    same-branch c.self.inside.stage c.applied_to_level.new.self c.self.inside.first c.is_sound.ensures c.self.invariant.fine c.applied_to_level.ensures.rest c.applied_to_level.ensures.grows c.applied_to_level.ensures.variables
    ∙ ap branch_of c.self.view_is

pub returns-clause-alternatives : goal.returns-clause-alternatives
returns-clause-alternatives c = λ p.
    let w = c.self.inside.stage in
    let w' = c.applied_to_level.new.self in
    let saved = reverse c.self.inside.choices in
    all-read-kept p w w' saved c.self.invariant.saved (grow-keeps w w' saved (no-notes w.heap w'.heap c.applied_to_level.ensures.grows) c.applied_to_level.ensures.rest c.self.invariant.saved)
    ∙ ap (alternatives_of p) c.self.view_is

pub returns-clause-code : goal.returns-clause-code
returns-clause-code c =
    code-grown c.self.inside.stage c.applied_to_level.new.self c.self.inside.first (no-notes c.self.inside.stage.heap c.applied_to_level.new.self.heap c.applied_to_level.ensures.grows) c.applied_to_level.ensures.rest c.self.invariant.fine
    ∙ ap (λ m. code_nodes m.world) c.self.view_is
