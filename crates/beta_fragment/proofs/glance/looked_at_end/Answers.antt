use Rattle.std.proofs.Common.{◌∙◌, ap, Some, refl}
use Rattle.beta_fragment.specs.Names.{names}
use Rattle.level_terms.specs.Reading.{read}
use Rattle.level_terms.proofs.MakeLemmas.{parts-there}
use Rattle.beta_fragment.proofs.EnterLemmas.{names-places}
use Rattle.beta_fragment.proofs.StayLemmas.{level-low}
use Rattle.beta_fragment.proofs.FirmLemmas.{abstraction-unready, reads-level, applied-rigid, applied-open}
use Rattle.beta_fragment.proofs.glance.looked_at_end.Goals as goal

pub is_rigid-requires : goal.is_rigid-requires
is_rigid-requires c = (parts-there c.args.heap.now c.args.t.index _ c.is_sound.ensures (c.view.ensures ∙ ap Some c.in-App.is)).0

pub is_open-requires : goal.is_open-requires
is_open-requires c = (parts-there c.args.heap.now c.args.t.index _ c.is_sound.ensures (c.view.ensures ∙ ap Some c.in-App-2.is)).0

pub returns-in-Level : goal.returns-in-Level
returns-in-Level c = λ s v. (reads-level c.args.heap.now c.args.t.index c.in-Level.l c.is_sound.ensures (c.view.ensures ∙ ap Some c.in-Level.is) names names-places, level-low c.args.heap.now c.args.t.index c.in-Level.l s c.is_sound.ensures (c.view.ensures ∙ ap Some c.in-Level.is) v)

pub returns-in-App : goal.returns-in-App
returns-in-App c = λ s v. (refl, v, applied-rigid c.args.heap.now c.args.t.index c.in-App.head _ c.is_sound.ensures (c.view.ensures ∙ ap Some c.in-App.is) (c.is_rigid.ensures c.if-is_rigid.true) names names-places)

pub returns-in-App-2 : goal.returns-in-App-2
returns-in-App-2 c = λ s v. applied-open c.args.heap.now c.args.t.index c.in-App-2.head _ c.is_sound.ensures (c.view.ensures ∙ ap Some c.in-App-2.is) (c.is_open.ensures c.if-is_open.true) names names-places

pub returns-then-is_rigid-2 : goal.returns-then-is_rigid-2
returns-then-is_rigid-2 c = λ s v. (refl, v, c.is_rigid-in_default.ensures c.if-is_rigid-2.true names names-places)

pub returns-then-is_abstraction : goal.returns-then-is_abstraction
returns-then-is_abstraction c = λ s v. abstraction-unready (read c.args.heap.now c.args.t.index names) (c.is_abstraction.ensures c.if-is_abstraction.true s v names names-places)
