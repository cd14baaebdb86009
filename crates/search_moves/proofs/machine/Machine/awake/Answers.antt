use Rattle.std.proofs.Common.{◌≡◌, List, map, reverse, ap, ◌∙◌, subst, IfOk}
use Rattle.suspend.specs.Store.{stored}
use Rattle.suspend.specs.Keyed.{first_awake}
use Rattle.search_moves.specs.declared.frame.Frame.{Frame}
use Rattle.search_moves.specs.World.{code_nodes}
use Rattle.search_moves.specs.Reading.{goal_in, branch_in}
use Rattle.search_moves.specs.Machine.{alternatives_of, branch_of}
use Rattle.search_moves.specs.Waking.{first_up, AllGoalsAt}
use Rattle.search_moves.proofs.CodeLemmas.{code-grown}
use Rattle.search_moves.proofs.SavedLemmas.{all-kept, all-read-kept}
use Rattle.search_moves.proofs.GrowLemmas.{grow-keeps, grow-fine, no-notes, same-branch}
use Rattle.search_moves.proofs.MoveLemmas.{if-ok}
use Rattle.search_moves.proofs.WakingLemmas.{first-up_is}
use Rattle.search_moves.proofs.StoreLemmas.{goals-grown, goals-read}
use Rattle.search_moves.proofs.machine.Machine.awake.Goals as goal

pub awake-requires : goal.awake-requires
awake-requires c = c.self.invariant.fine.keyed

pub invariant_of-self : goal.invariant_of-self
invariant_of-self c =
    let w = c.self.inside.stage in
    let w' = c.awake.new.self in
    let saved = reverse c.self.inside.choices in
    let g = no-notes w.heap w'.heap c.awake.ensures.grows in
    record {
      fine = grow-fine w w' c.self.inside.first c.is_sound.ensures g c.awake.ensures.rest c.self.invariant.fine;
      saved = all-kept w w' saved c.self.invariant.saved (grow-keeps w w' saved g c.awake.ensures.rest c.self.invariant.saved);
    }

pub returns-clause-first : goal.returns-clause-first
returns-clause-first c =
    let w = c.self.inside.stage in
    subst (λ m. IfOk c.awake.result (λ o. o ≡ first_up (branch_of m).store)) c.self.view_is
    (if-ok c.awake.result (λ o. o ≡ first_awake w.heap (stored w.log)) (λ o. o ≡ first_up (branch_in w c.self.inside.first).store) (λ o e. e ∙ first-up_is w.heap (stored w.log)) c.awake.ensures.first)

pub returns-clause-goals : goal.returns-clause-goals
returns-clause-goals c =
    let g = c.self.inside.stage.heap in
    let h = c.awake.new.self.heap in
    subst (λ m. (fs : List Frame) → AllGoalsAt m.world.heap fs → (map (goal_in h) fs ≡ map (goal_in m.world.heap) fs) × AllGoalsAt h fs) c.self.view_is
    (λ fs v. (goals-read g h c.is_sound.ensures c.awake.ensures.grows fs v, goals-grown g h c.is_sound.ensures c.awake.ensures.grows fs v))

pub returns-clause-branch : goal.returns-clause-branch
returns-clause-branch c =
    same-branch c.self.inside.stage c.awake.new.self c.self.inside.first c.is_sound.ensures c.self.invariant.fine c.awake.ensures.rest c.awake.ensures.grows c.awake.ensures.variables
    ∙ ap branch_of c.self.view_is

pub returns-clause-alternatives : goal.returns-clause-alternatives
returns-clause-alternatives c = λ p.
    let w = c.self.inside.stage in
    let w' = c.awake.new.self in
    let saved = reverse c.self.inside.choices in
    all-read-kept p w w' saved c.self.invariant.saved (grow-keeps w w' saved (no-notes w.heap w'.heap c.awake.ensures.grows) c.awake.ensures.rest c.self.invariant.saved)
    ∙ ap (alternatives_of p) c.self.view_is

pub returns-clause-code : goal.returns-clause-code
returns-clause-code c =
    code-grown c.self.inside.stage c.awake.new.self c.self.inside.first (no-notes c.self.inside.stage.heap c.awake.new.self.heap c.awake.ensures.grows) c.awake.ensures.rest c.self.invariant.fine
    ∙ ap (λ m. code_nodes m.world) c.self.view_is
