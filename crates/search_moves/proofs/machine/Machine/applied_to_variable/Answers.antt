use Rattle.std.proofs.Common.{◌≡◌, ℕ, suc, ◌++◌, ◌∷◌, [], List, length, OnOk, reverse, refl, sym, ap, ◌∙◌, subst, arith, length-append}
use Rattle.search_moves.specs.Machine.{Machine, alternatives_of, branch_of, IsFirst}
use Rattle.search_moves.specs.World.{code_nodes}
use Rattle.search_moves.proofs.CodeLemmas.{code-grown}
use Rattle.search_moves.proofs.SavedLemmas.{all-kept, all-read-kept}
use Rattle.search_moves.proofs.GrowLemmas.{grow-keeps, grow-fine, no-notes, goal-grown, first-grown, on-ok}
use Rattle.search_moves.specs.Reading.{branch_in}
use Rattle.search_moves.proofs.ReadingLemmas.{grown-reads}
use Rattle.search_moves.proofs.machine.Machine.applied_to_variable.Goals as goal

pub invariant_of-self : goal.invariant_of-self
invariant_of-self c =
    let w = c.self.inside.stage in
    let w' = c.applied_to_variable.new.self in
    let saved = reverse c.self.inside.choices in
    let g = no-notes w.heap w'.heap c.applied_to_variable.ensures.grows in
    record {
      fine = grow-fine w w' c.self.inside.first c.is_sound.ensures g c.applied_to_variable.ensures.rest c.self.invariant.fine;
      saved = all-kept w w' saved c.self.invariant.saved (grow-keeps w w' saved g c.applied_to_variable.ensures.rest c.self.invariant.saved);
    }

pub returns-clause-first : goal.returns-clause-first
returns-clause-first c =
    let w = c.self.inside.stage in
    let w' = c.applied_to_variable.new.self in
    let m : Machine = record { world = w; first = c.self.inside.first; saved = reverse c.self.inside.choices; phase = c.self.inside.phase } in
    let m' : Machine = record { world = w'; first = c.self.inside.first; saved = reverse c.self.inside.choices; phase = c.self.inside.phase } in
    first-grown m m' c.args.goal.now refl c.is_sound.ensures (no-notes w.heap w'.heap c.applied_to_variable.ensures.grows) c.applied_to_variable.ensures.rest (subst (λ z. IsFirst z c.args.goal.now) (sym c.self.view_is) c.requires.first)

pub returns-clause-goal : goal.returns-clause-goal
returns-clause-goal c =
    goal-grown c.self.inside.stage.heap c.applied_to_variable.new.self.heap c.args.goal.now c.args.self.now (ap (λ z. z.world.heap) (sym c.self.view_is)) c.is_sound.ensures c.applied_to_variable.ensures.grows c.requires.first

pub returns-clause-branch : goal.returns-clause-branch
returns-clause-branch c =
    let w = c.self.inside.stage in
    let w' = c.applied_to_variable.new.self in
    let n = c.self.inside.first in
    let here = on-ok c.applied_to_variable.result (w'.heap.depths ≡ w.heap.depths ++ c.args.goal.now.depth ∷ []) (branch_in w' n ≡ record (branch_in w n) { next_var = suc (length w.heap.depths) })
    (λ e. let one_more : length w'.heap.depths ≡ suc (length w.heap.depths) = omega (arith, ap (λ (ds : List ℕ). length ds) e, length-append w.heap.depths (c.args.goal.now.depth ∷ [])) in
    grown-reads w w' n c.is_sound.ensures c.self.invariant.fine c.applied_to_variable.ensures.rest c.applied_to_variable.ensures.grows
    ∙ ap (λ k. record (branch_in w n) { next_var = k }) one_more) c.applied_to_variable.ensures.variables in
    subst (λ z. OnOk c.applied_to_variable.result (branch_in w' n ≡ record (branch_of z) { next_var = suc (length z.world.heap.depths) })) c.self.view_is here

pub returns-clause-alternatives : goal.returns-clause-alternatives
returns-clause-alternatives c = λ p.
    let w = c.self.inside.stage in
    let w' = c.applied_to_variable.new.self in
    let saved = reverse c.self.inside.choices in
    all-read-kept p w w' saved c.self.invariant.saved (grow-keeps w w' saved (no-notes w.heap w'.heap c.applied_to_variable.ensures.grows) c.applied_to_variable.ensures.rest c.self.invariant.saved)
    ∙ ap (alternatives_of p) c.self.view_is

pub returns-clause-code : goal.returns-clause-code
returns-clause-code c =
    code-grown c.self.inside.stage c.applied_to_variable.new.self c.self.inside.first (no-notes c.self.inside.stage.heap c.applied_to_variable.new.self.heap c.applied_to_variable.ensures.grows) c.applied_to_variable.ensures.rest c.self.invariant.fine
    ∙ ap (λ m. code_nodes m.world) c.self.view_is
