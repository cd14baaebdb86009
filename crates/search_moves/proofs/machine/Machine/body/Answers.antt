use Rattle.std.proofs.Common.{◌≡◌, Some, IfOk, length, slice_get, reverse, refl, sym, ap, ◌∙◌, subst}
use Rattle.beta_fragment.specs.HeadForm.{AllValidAt}
use Rattle.ref_terms.specs.search.Program.{Program, Clause}
use Rattle.search_moves.specs.World.{code_nodes}
use Rattle.search_moves.specs.Machine.{Machine, branch_of, alternatives_of, IsFirst}
use Rattle.search_moves.specs.Instances.{IsBodyOver}
use Rattle.search_moves.proofs.CodeLemmas.{code-grown}
use Rattle.search_moves.proofs.SavedLemmas.{all-kept, all-read-kept}
use Rattle.search_moves.proofs.GrowLemmas.{grow-keeps, grow-fine, no-notes, same-branch, first-grown, on-ok}
use Rattle.search_moves.proofs.machine.Machine.body.Goals as goal

pub invariant_of-self : goal.invariant_of-self
invariant_of-self g c =
    let w = c.self.inside.stage in
    let w' = c.body.new.self in
    let saved = reverse c.self.inside.choices in
    let grows = no-notes w.heap w'.heap c.body.ensures.grows in
    record {
      fine = grow-fine w w' c.self.inside.first c.is_sound.ensures grows c.body.ensures.rest c.self.invariant.fine;
      saved = all-kept w w' saved c.self.invariant.saved (grow-keeps w w' saved grows c.body.ensures.rest c.self.invariant.saved);
    }

pub body-requires-clause-base : goal.body-requires-clause-base
body-requires-clause-base g c = c.self.invariant.fine.code

pub body-requires-clause-code : goal.body-requires-clause-code
body-requires-clause-code g c = subst (λ m. (p : Program) × (k : Clause) × (g.C.Clauses.stands (code_nodes m.world) c.args.code.now p) × (slice_get p.clauses c.args.clause ≡ Some k) × (length c.args.variables.items ≡ k.variables)) (sym c.self.view_is) c.requires.code

pub body-requires-clause-variables : goal.body-requires-clause-variables
body-requires-clause-variables g c = subst (λ m. AllValidAt m.world.heap c.args.variables.items c.args.depth) (sym c.self.view_is) c.requires.variables

pub returns-clause-made : goal.returns-clause-made
returns-clause-made g c =
    subst (λ m. IfOk c.body.result (λ body. (p : Program) (k : Clause) → g.C.Clauses.stands (code_nodes m.world) c.args.code.now p → slice_get p.clauses c.args.clause ≡ Some k → IsBodyOver k c.args.depth c.args.variables.items m.world.heap c.body.new.self.heap body)) c.self.view_is c.body.ensures.made

pub returns-clause-first : goal.returns-clause-first
returns-clause-first g c = λ f h.
    let w = c.self.inside.stage in
    let w' = c.body.new.self in
    let m : Machine = record { world = w; first = c.self.inside.first; saved = reverse c.self.inside.choices; phase = c.self.inside.phase } in
    let m' : Machine = record { world = w'; first = c.self.inside.first; saved = reverse c.self.inside.choices; phase = c.self.inside.phase } in
    first-grown m m' f refl c.is_sound.ensures (no-notes w.heap w'.heap c.body.ensures.grows) c.body.ensures.rest (subst (λ z. IsFirst z f) (sym c.self.view_is) h)

pub returns-clause-branch : goal.returns-clause-branch
returns-clause-branch g c =
    on-ok c.body.result (c.body.new.self.heap.depths ≡ c.self.inside.stage.heap.depths) _
    (λ e. same-branch c.self.inside.stage c.body.new.self c.self.inside.first c.is_sound.ensures c.self.invariant.fine c.body.ensures.rest c.body.ensures.grows e ∙ ap branch_of c.self.view_is)
    c.body.ensures.variables

pub returns-clause-alternatives : goal.returns-clause-alternatives
returns-clause-alternatives g c = λ p.
    let w = c.self.inside.stage in
    let w' = c.body.new.self in
    let saved = reverse c.self.inside.choices in
    all-read-kept p w w' saved c.self.invariant.saved (grow-keeps w w' saved (no-notes w.heap w'.heap c.body.ensures.grows) c.body.ensures.rest c.self.invariant.saved)
    ∙ ap (alternatives_of p) c.self.view_is

pub returns-clause-code : goal.returns-clause-code
returns-clause-code g c =
    code-grown c.self.inside.stage c.body.new.self c.self.inside.first (no-notes c.self.inside.stage.heap c.body.new.self.heap c.body.ensures.grows) c.body.ensures.rest c.self.invariant.fine
    ∙ ap (λ m. code_nodes m.world) c.self.view_is
