use Rattle.std.proofs.Common.{◌∙◌, ap, sym, refl, Some, length, []}
use Rattle.beta_fragment.specs.HeadForm.{rigid_head}
use Rattle.ref_terms.specs.terms.Term as term
use Rattle.ref_terms.specs.terms.Term.{At}
use Rattle.std.proofs.lemmas.Int.{to_z-of_z}
use Rattle.std.proofs.Common.{rules}
use mir.Val.{SFits}
use mir.Syntax.{w64}
use Rattle.level_terms.proofs.GrowthLemmas.{grows-refl}
use Rattle.level_terms.proofs.ReadLemmas.{valid-below}
use Rattle.beta_fragment.proofs.StayLemmas.{level-low}
use Rattle.beta_fragment.proofs.TurnLemmas.{level-reads, leaf-reads, args-valid, app-turn-at}
use Rattle.beta_fragment.proofs.head.one_turn.Goals as goal

pub view-requires : goal.view-requires
view-requires c = valid-below c.args.heap.now c.args.head.index (length c.args.levels.now) c.requires.valid

pub rigid-requires : goal.rigid-requires
rigid-requires c = record { head = leaf-reads c.args.heap.now c.args.head.index _ c.args.levels.now _ c.is_sound.ensures (c.view.ensures ∙ ap Some c.in-Con.is) refl }

pub rigid-requires-in-Int : goal.rigid-requires-in-Int
rigid-requires-in-Int c =
    let fits : SFits w64 c.in-Int.n = search rules in
    record { head = leaf-reads c.args.heap.now c.args.head.index _ c.args.levels.now _ c.is_sound.ensures (c.view.ensures ∙ ap Some c.in-Int.is) (sym (ap (λ h. At (rigid_head h)) c.int_head-name.ensures ∙ ap (λ z. At (term.Int z)) (to_z-of_z w64 c.in-Int.n fits))) }

pub rigid-requires-in-Str : goal.rigid-requires-in-Str
rigid-requires-in-Str c = record { head = leaf-reads c.args.heap.now c.args.head.index _ c.args.levels.now _ c.is_sound.ensures (c.view.ensures ∙ ap Some c.in-Str.is) refl }

pub rigid-requires-in-Level : goal.rigid-requires-in-Level
rigid-requires-in-Level c = record {
  head = level-reads c.args.heap.now c.args.head.index c.in-Level.l c.name.result c.args.levels.now c.is_sound.ensures (c.view.ensures ∙ ap Some c.in-Level.is) c.requires.valid c.name.ensures;
}

pub name-requires : goal.name-requires
name-requires c = level-low c.args.heap.now c.args.head.index c.in-Level.l (length c.args.levels.now) c.is_sound.ensures (c.view.ensures ∙ ap Some c.in-Level.is) c.requires.valid

pub push_args-requires-clause-there : goal.push_args-requires-clause-there
push_args-requires-clause-there c = valid-below c.args.heap.now c.args.head.index (length c.args.levels.now) c.requires.valid

pub push_args-requires-clause-valid : goal.push_args-requires-clause-valid
push_args-requires-clause-valid c =
    args-valid c.args.heap.now c.args.head.index (length c.args.levels.now) c.in-App.inner _ c.is_sound.ensures (c.view.ensures ∙ ap Some c.in-App.is) c.requires.valid

pub returns-in_ok-push_args-in-App-clause-turn : goal.returns-in_ok-push_args-in-App-clause-turn
returns-in_ok-push_args-in-App-clause-turn c =
    app-turn-at c.args.heap.now c.push_args.new.heap c.args.depth c.args.head.index c.in-App.inner _ c.args.levels.now c.args.fixed.now c.args.args.now.items c.push_args.new.args.items c.is_sound.ensures c.push_args.ensures.grows (c.view.ensures ∙ ap Some c.in-App.is) c.requires.valid c.requires.moves c.in_ok-push_args-in-App.ensures.reads c.in_ok-push_args-in-App.ensures.valid

pub returns-in_err-form-in-Con-clause-grows : goal.returns-in_err-form-in-Con-clause-grows
returns-in_err-form-in-Con-clause-grows c = grows-refl c.args.heap.now []

pub returns-in_ok-form-in-Con-clause-grows : goal.returns-in_ok-form-in-Con-clause-grows
returns-in_ok-form-in-Con-clause-grows c = grows-refl c.args.heap.now []

pub returns-in_err-form-in-Int-clause-grows : goal.returns-in_err-form-in-Int-clause-grows
returns-in_err-form-in-Int-clause-grows c = grows-refl c.args.heap.now []

pub returns-in_ok-form-in-Int-clause-grows : goal.returns-in_ok-form-in-Int-clause-grows
returns-in_ok-form-in-Int-clause-grows c = grows-refl c.args.heap.now []

pub returns-in_err-form-in-Str-clause-grows : goal.returns-in_err-form-in-Str-clause-grows
returns-in_err-form-in-Str-clause-grows c = grows-refl c.args.heap.now []

pub returns-in_ok-form-in-Str-clause-grows : goal.returns-in_ok-form-in-Str-clause-grows
returns-in_ok-form-in-Str-clause-grows c = grows-refl c.args.heap.now []

pub returns-in_err-form-in-Level-clause-grows : goal.returns-in_err-form-in-Level-clause-grows
returns-in_err-form-in-Level-clause-grows c = grows-refl c.args.heap.now []

pub returns-in_ok-form-in-Level-clause-grows : goal.returns-in_ok-form-in-Level-clause-grows
returns-in_ok-form-in-Level-clause-grows c = grows-refl c.args.heap.now []
