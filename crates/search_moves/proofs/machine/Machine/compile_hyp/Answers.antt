use Rattle.std.proofs.Common.{◌≡◌, ℕ, [], Result, Ok, Err, IfOk, map, reverse, refl, sym, ap, ◌∙◌, subst}
use Rattle.level_terms.specs.Reading.{read}
use Rattle.level_terms.specs.Valid.{IsValid}
use Rattle.level_terms.proofs.ValidLemmas.{growth_keeps_readings}
use Rattle.level_terms.proofs.ReadLemmas.{valid-below}
use Rattle.beta_fragment.specs.Names.{names}
use Rattle.hyp_clause.specs.Hyps.{assumption_in, AllHypsValid}
use Rattle.ref_terms.specs.search.Assumption.{assumptions_of}
use Rattle.ref_terms.specs.search.Fault.{Good}
use Rattle.search_moves.specs.Machine.{Machine, alternatives_of, branch_of, IsFirst}
use Rattle.search_moves.specs.World.{IsContextAt, code_nodes}
use Rattle.search_moves.proofs.CodeLemmas.{code-grown}
use Rattle.search_moves.proofs.FrameLemmas.{valid-grown}
use Rattle.search_moves.proofs.OwnLemmas.{compiled-context}
use Rattle.search_moves.proofs.SavedLemmas.{all-kept, all-read-kept}
use Rattle.search_moves.proofs.GrowLemmas.{grow-keeps, grow-fine, no-notes, same-branch, first-grown}
use Rattle.search_moves.proofs.machine.Machine.compile_hyp.Goals as goal

both-ok : {T E : Type 0} (r : Result T E) (A B C : T → Type 0) → ((t : T) → A t → B t → C t) → IfOk r A → IfOk r B → IfOk r C
both-ok (Ok t) A B C f a b = f t a b
both-ok (Err e) A B C f a b = tt

pub invariant_of-self : goal.invariant_of-self
invariant_of-self c =
    let w = c.self.inside.stage in
    let w' = c.compile_hyp.new.self in
    let saved = reverse c.self.inside.choices in
    let g = no-notes w.heap w'.heap c.compile_hyp.ensures.grows in
    record {
      fine = grow-fine w w' c.self.inside.first c.is_sound.ensures g c.compile_hyp.ensures.rest c.self.invariant.fine;
      saved = all-kept w w' saved c.self.invariant.saved (grow-keeps w w' saved g c.compile_hyp.ensures.rest c.self.invariant.saved);
    }

pub returns-clause-context : goal.returns-clause-context
returns-clause-context c =
    let d = c.args.goal.now.depth in
    let t = read c.self.inside.stage.heap c.args.t.index names in
    let h = c.compile_hyp.new.self.heap in
    both-ok c.compile_hyp.result (λ hs. Good (map (assumption_in h) hs) ≡ assumptions_of d t) (AllHypsValid h) (IsContextAt h d)
    (λ hs e v. compiled-context h d t hs e v) c.compile_hyp.ensures.clauses c.compile_hyp.ensures.valid

pub returns-clause-first : goal.returns-clause-first
returns-clause-first c =
    let w = c.self.inside.stage in
    let w' = c.compile_hyp.new.self in
    let m : Machine = record { world = w; first = c.self.inside.first; saved = reverse c.self.inside.choices; phase = c.self.inside.phase } in
    let m' : Machine = record { world = w'; first = c.self.inside.first; saved = reverse c.self.inside.choices; phase = c.self.inside.phase } in
    first-grown m m' c.args.goal.now refl c.is_sound.ensures (no-notes w.heap w'.heap c.compile_hyp.ensures.grows) c.compile_hyp.ensures.rest (subst (λ z. IsFirst z c.args.goal.now) (sym c.self.view_is) c.requires.first)

pub returns-clause-readings : goal.returns-clause-readings
returns-clause-readings c =
    let d = c.args.goal.now.depth in
    let g = c.self.inside.stage.heap in
    let h = c.compile_hyp.new.self.heap in
    subst (λ m. (i : ℕ) → IsValid m.world.heap i d → read h i names ≡ read m.world.heap i names) c.self.view_is
    (λ i v. growth_keeps_readings g h i names c.is_sound.ensures c.compile_hyp.ensures.grows (valid-below g i d v))

pub returns-clause-valid : goal.returns-clause-valid
returns-clause-valid c =
    let d = c.args.goal.now.depth in
    let g = c.self.inside.stage.heap in
    let h = c.compile_hyp.new.self.heap in
    subst (λ m. (i : ℕ) → IsValid m.world.heap i d → IsValid h i d) c.self.view_is
    (λ i v. valid-grown g h [] [] i d c.is_sound.ensures c.compile_hyp.ensures.grows v)

pub returns-clause-branch : goal.returns-clause-branch
returns-clause-branch c =
    same-branch c.self.inside.stage c.compile_hyp.new.self c.self.inside.first c.is_sound.ensures c.self.invariant.fine c.compile_hyp.ensures.rest c.compile_hyp.ensures.grows c.compile_hyp.ensures.variables
    ∙ ap branch_of c.self.view_is

pub returns-clause-alternatives : goal.returns-clause-alternatives
returns-clause-alternatives c = λ p.
    let w = c.self.inside.stage in
    let w' = c.compile_hyp.new.self in
    let saved = reverse c.self.inside.choices in
    all-read-kept p w w' saved c.self.invariant.saved (grow-keeps w w' saved (no-notes w.heap w'.heap c.compile_hyp.ensures.grows) c.compile_hyp.ensures.rest c.self.invariant.saved)
    ∙ ap (alternatives_of p) c.self.view_is

pub returns-clause-code : goal.returns-clause-code
returns-clause-code c =
    code-grown c.self.inside.stage c.compile_hyp.new.self c.self.inside.first (no-notes c.self.inside.stage.heap c.compile_hyp.new.self.heap c.compile_hyp.ensures.grows) c.compile_hyp.ensures.rest c.self.invariant.fine
    ∙ ap (λ m. code_nodes m.world) c.self.view_is
