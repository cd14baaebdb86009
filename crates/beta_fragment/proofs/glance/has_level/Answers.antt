use Rattle.std.proofs.Common.{◌∙◌, ap, sym, Some, List}
use Rattle.level_terms.specs.declared.node.Node.TheVariants.{App}
use Rattle.level_terms.specs.declared.node.TermId.{TermId}
use Rattle.level_terms.proofs.MakeLemmas.{parts-there}
use Rattle.beta_fragment.proofs.LevelLemmas.{app-has}
use Rattle.beta_fragment.proofs.glance.has_level.Goals as goal

pub is_plain-requires : goal.is_plain-requires
is_plain-requires c = (parts-there c.args.heap.now c.args.t.index _ c.is_sound.ensures (c.view.ensures ∙ ap Some c.in-App.is)).0

pub is_among-requires : goal.is_among-requires
is_among-requires c = (parts-there c.args.heap.now c.args.t.index (App c.in-App.head c.as_slice.result.now) c.is_sound.ensures (c.view.ensures ∙ ap Some c.in-App.is ∙ ap (λ (ts : List TermId). Some (App c.in-App.head ts)) (sym c.as_slice.ensures))).1

pub returns-else-not-is_plain : goal.returns-else-not-is_plain
returns-else-not-is_plain c = λ q. app-has c.args.heap.now c.args.t.index c.args.level c.in-App.head c.as_slice.result.now c.is_sound.ensures (c.view.ensures ∙ ap Some c.in-App.is ∙ ap (λ (ts : List TermId). Some (App c.in-App.head ts)) (sym c.as_slice.ensures)) (c.is_plain.ensures c.if-not-is_plain.false) (c.is_among.ensures q)
