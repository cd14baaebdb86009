use Rattle.std.proofs.Common.{◌≡◌, ℕ, [], reverse, refl, sym, ap, ◌∙◌, subst}
use Rattle.level_terms.specs.Reading.{read}
use Rattle.level_terms.specs.Valid.{IsValid}
use Rattle.level_terms.proofs.ReadLemmas.{valid-below}
use Rattle.level_terms.proofs.ValidLemmas.{growth_keeps_readings}
use Rattle.beta_fragment.specs.Names.{names}
use Rattle.search_moves.proofs.FrameLemmas.{valid-grown}
use Rattle.search_moves.specs.Machine.{Machine, alternatives_of, branch_of, IsFirst}
use Rattle.search_moves.specs.World.{code_nodes}
use Rattle.search_moves.proofs.CodeLemmas.{code-grown}
use Rattle.search_moves.proofs.SavedLemmas.{all-kept, all-read-kept}
use Rattle.search_moves.proofs.GrowLemmas.{grow-keeps, grow-fine, no-notes, same-branch, first-grown, goal-grown}
use Rattle.search_moves.proofs.machine.Machine.whnf.Goals as goal

pub invariant_of-self : goal.invariant_of-self
invariant_of-self c =
    let w = c.self.inside.stage in
    let w' = c.whnf.new.self in
    let saved = reverse c.self.inside.choices in
    let g = no-notes w.heap w'.heap c.whnf.ensures.grows in
    record {
      fine = grow-fine w w' c.self.inside.first c.is_sound.ensures g c.whnf.ensures.rest c.self.invariant.fine;
      saved = all-kept w w' saved c.self.invariant.saved (grow-keeps w w' saved g c.whnf.ensures.rest c.self.invariant.saved);
    }

pub returns-clause-first : goal.returns-clause-first
returns-clause-first c = λ f h.
    let w = c.self.inside.stage in
    let w' = c.whnf.new.self in
    let m : Machine = record { world = w; first = c.self.inside.first; saved = reverse c.self.inside.choices; phase = c.self.inside.phase } in
    let m' : Machine = record { world = w'; first = c.self.inside.first; saved = reverse c.self.inside.choices; phase = c.self.inside.phase } in
    first-grown m m' f refl c.is_sound.ensures (no-notes w.heap w'.heap c.whnf.ensures.grows) c.whnf.ensures.rest (subst (λ z. IsFirst z f) (sym c.self.view_is) h)

pub returns-clause-goal : goal.returns-clause-goal
returns-clause-goal c = λ f h.
    goal-grown c.self.inside.stage.heap c.whnf.new.self.heap f c.args.self.now (ap (λ z. z.world.heap) (sym c.self.view_is)) c.is_sound.ensures c.whnf.ensures.grows h

pub returns-clause-branch : goal.returns-clause-branch
returns-clause-branch c =
    same-branch c.self.inside.stage c.whnf.new.self c.self.inside.first c.is_sound.ensures c.self.invariant.fine c.whnf.ensures.rest c.whnf.ensures.grows c.whnf.ensures.variables
    ∙ ap branch_of c.self.view_is

pub returns-clause-alternatives : goal.returns-clause-alternatives
returns-clause-alternatives c = λ p.
    let w = c.self.inside.stage in
    let w' = c.whnf.new.self in
    let saved = reverse c.self.inside.choices in
    all-read-kept p w w' saved c.self.invariant.saved (grow-keeps w w' saved (no-notes w.heap w'.heap c.whnf.ensures.grows) c.whnf.ensures.rest c.self.invariant.saved)
    ∙ ap (alternatives_of p) c.self.view_is

pub returns-clause-code : goal.returns-clause-code
returns-clause-code c =
    code-grown c.self.inside.stage c.whnf.new.self c.self.inside.first (no-notes c.self.inside.stage.heap c.whnf.new.self.heap c.whnf.ensures.grows) c.whnf.ensures.rest c.self.invariant.fine
    ∙ ap (λ m. code_nodes m.world) c.self.view_is

pub returns-clause-readings : goal.returns-clause-readings
returns-clause-readings c =
    let g = c.self.inside.stage.heap in
    let h = c.whnf.new.self.heap in
    subst (λ m. (i : ℕ) (d : ℕ) → IsValid m.world.heap i d → read h i names ≡ read m.world.heap i names) c.self.view_is
    (λ i d v. growth_keeps_readings g h i names c.is_sound.ensures c.whnf.ensures.grows (valid-below g i d v))

pub returns-clause-valid : goal.returns-clause-valid
returns-clause-valid c =
    let g = c.self.inside.stage.heap in
    let h = c.whnf.new.self.heap in
    subst (λ m. (i : ℕ) (d : ℕ) → IsValid m.world.heap i d → IsValid h i d) c.self.view_is
    (λ i d v. valid-grown g h [] [] i d c.is_sound.ensures c.whnf.ensures.grows v)
