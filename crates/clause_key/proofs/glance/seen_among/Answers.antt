use Rattle.std.proofs.Common.{◌∙◌, ap, sym, subst, Some, length}
use Rattle.level_terms.specs.declared.node.Node.TheVariants.{App}
use Rattle.level_terms.specs.Reading.{read}
use Rattle.level_terms.proofs.MakeLemmas.{parts-there}
use Rattle.beta_fragment.specs.Names.{names}
use Rattle.clause_key.specs.Keys.{fits_every, key_argument}
use Rattle.clause_key.proofs.SeenLemmas.{app-args, seen-among, among-same, argument-there}
use Rattle.clause_key.proofs.glance.seen_among.Goals as goal

pub view-requires-in-App : goal.view-requires-in-App
view-requires-in-App c = (parts-there c.args.heap.now c.followed-node.result.index (App c.in-App.head c.in-App.args) c.is_sound.ensures (c.view.ensures ∙ ap Some c.in-App.is)).0

pub seen_key-requires : goal.seen_key-requires
seen_key-requires c =
    let older = (parts-there c.args.heap.now c.followed-node.result.index (App c.in-App.head c.in-App.args) c.is_sound.ensures (c.view.ensures ∙ ap Some c.in-App.is)).1 in
    argument-there (length c.args.heap.now.nodes) c.args.inputs.now c.in-App.args c.in-Some.arg
    (ap (λ ts. key_argument c.args.inputs.now ts) (sym c.as_slice.ensures) ∙ sym c.key_argument.ensures ∙ c.in-Some.is) older

pub returns-in-Some : goal.returns-in-Some
returns-in-Some c =
    let g = c.args.heap.now in
    let node = c.followed-node.result.index in
    let here = c.view.ensures ∙ ap Some c.in-App.is in
    let args = app-args g node c.in-App.head c.in-App.args c.view-in-App.result.now c.is_sound.ensures here c.view-in-App.ensures
    (ap fits_every (sym c.key_of_node.ensures) ∙ sym c.fits_every.ensures ∙ c.if-fits_every.false) in
    among-same _ c.args.inputs.now (read g c.args.atom.index names) (read g node names) c.followed-node.ensures.same
    (seen-among g c.args.inputs.now _ c.in-App.args c.in-Some.arg _ args
    (ap (λ ts. key_argument c.args.inputs.now ts) (sym c.as_slice.ensures) ∙ sym c.key_argument.ensures ∙ c.in-Some.is) c.seen_key.ensures)
