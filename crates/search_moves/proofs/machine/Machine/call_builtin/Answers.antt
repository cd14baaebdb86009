use Rattle.std.proofs.Common.{◌≡◌, None, reverse, refl, ap, ◌∙◌, subst, IfOk, IfErr, MatchBool}
use Rattle.goal_form.specs.Builtins.{builtin_word}
use Rattle.ref_terms.specs.search.Formula.{GoalKind, reserved_goal}
use Rattle.beta_fragment.specs.HeadForm.{all_read}
use Rattle.builtins.specs.Moves.{GoesOn, FailsSo, BreaksOff}
use Rattle.search_moves.specs.Machine.{Machine, alternatives_of, GoesOnSo}
use Rattle.search_moves.specs.World.{code_nodes}
use Rattle.search_moves.proofs.CodeLemmas.{code-grown}
use Rattle.search_moves.proofs.SavedLemmas.{all-kept, all-read-kept}
use Rattle.search_moves.proofs.GrowLemmas.{grow-keeps, grow-fine, went-on, told-map}
use Rattle.search_moves.proofs.machine.Machine.call_builtin.Goals as goal

pub invariant_of-self : goal.invariant_of-self
invariant_of-self c =
    let w = c.self.inside.stage in
    let w' = c.call_builtin.new.self in
    let saved = reverse c.self.inside.choices in
    record {
      fine = grow-fine w w' c.self.inside.first c.is_sound.ensures c.call_builtin.ensures.grows c.call_builtin.ensures.rest c.self.invariant.fine;
      saved = all-kept w w' saved c.self.invariant.saved (grow-keeps w w' saved c.call_builtin.ensures.grows c.call_builtin.ensures.rest c.self.invariant.saved);
    }

pub returns-clause-answer : goal.returns-clause-answer
returns-clause-answer c =
    let w = c.self.inside.stage in
    let w' = c.call_builtin.new.self in
    let m : Machine = record { world = w; first = c.self.inside.first; saved = reverse c.self.inside.choices; phase = c.self.inside.phase } in
    let m' : Machine = record { world = w'; first = c.self.inside.first; saved = reverse c.self.inside.choices; phase = c.self.inside.phase } in
    let kind : GoalKind = reserved_goal (builtin_word c.args.builtin) (all_read w.heap c.args.args.now) in
    let shown = c.call_builtin.new.events in
    let here = told-map c.call_builtin.result (c.args.events.now ≡ None) (GoesOn c.args.symbols.now w.heap w'.heap c.args.depth kind shown) (GoesOnSo c.args.symbols.now m m' c.args.depth kind shown) (FailsSo c.args.symbols.now w.heap c.args.depth kind)
    (went-on c.args.symbols.now m m' c.args.depth kind shown c.self.invariant.fine refl c.call_builtin.ensures.rest) c.call_builtin.ensures.moves in
    subst (λ z. IfOk c.call_builtin.result (λ b. c.args.events.now ≡ None → MatchBool b
    (GoesOnSo c.args.symbols.now z m' c.args.depth (reserved_goal (builtin_word c.args.builtin) (all_read z.world.heap c.args.args.now)) shown)
    (FailsSo c.args.symbols.now z.world.heap c.args.depth (reserved_goal (builtin_word c.args.builtin) (all_read z.world.heap c.args.args.now))))) c.self.view_is here

pub returns-clause-breaks_off : goal.returns-clause-breaks_off
returns-clause-breaks_off c =
    subst (λ z. IfErr c.call_builtin.result (BreaksOff c.args.symbols.now z.world.heap c.args.depth (reserved_goal (builtin_word c.args.builtin) (all_read z.world.heap c.args.args.now)))) c.self.view_is c.call_builtin.ensures.breaks_off

pub returns-clause-alternatives : goal.returns-clause-alternatives
returns-clause-alternatives c = λ p.
    let w = c.self.inside.stage in
    let w' = c.call_builtin.new.self in
    let saved = reverse c.self.inside.choices in
    all-read-kept p w w' saved c.self.invariant.saved (grow-keeps w w' saved c.call_builtin.ensures.grows c.call_builtin.ensures.rest c.self.invariant.saved)
    ∙ ap (alternatives_of p) c.self.view_is

pub returns-clause-code : goal.returns-clause-code
returns-clause-code c =
    code-grown c.self.inside.stage c.call_builtin.new.self c.self.inside.first c.call_builtin.ensures.grows c.call_builtin.ensures.rest c.self.invariant.fine
    ∙ ap (λ m. code_nodes m.world) c.self.view_is
