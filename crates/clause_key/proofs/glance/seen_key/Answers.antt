use Rattle.std.proofs.Common.{◌∙◌, ap, sym, subst, Some}
use Rattle.level_terms.specs.declared.node.Node.TheVariants.{App}
use Rattle.level_terms.specs.Reading.{read}
use Rattle.level_terms.proofs.MakeLemmas.{parts-there}
use Rattle.beta_fragment.specs.Names.{names}
use Rattle.clause_key.specs.Seen.{IsSeen}
use Rattle.clause_key.proofs.SeenLemmas.{seen-node, seen-app, seen-same}
use Rattle.clause_key.proofs.glance.seen_key.Goals as goal

pub view-requires-in-App : goal.view-requires-in-App
view-requires-in-App c = (parts-there c.args.heap.now c.followed-node.result.index (App c.in-App.head c.in-App.args) c.is_sound.ensures (c.view.ensures ∙ ap Some c.in-App.is)).0

pub returns-in-App : goal.returns-in-App
returns-in-App c =
    let g = c.args.heap.now in
    let u = read g c.args.t.index names in
    subst (λ k. IsSeen k u) (sym c.key_of_node.ensures)
    (seen-same _ u (read g c.followed-node.result.index names) c.followed-node.ensures.same
    (seen-app g c.followed-node.result.index c.in-App.head c.in-App.args c.view-in-App.result.now c.is_sound.ensures (c.view.ensures ∙ ap Some c.in-App.is) c.view-in-App.ensures))

pub returns-in_default : goal.returns-in_default
returns-in_default c =
    let g = c.args.heap.now in
    let u = read g c.args.t.index names in
    subst (λ k. IsSeen k u) (sym c.key_of_node-in_default.ensures)
    (seen-same _ u (read g c.followed-node.result.index names) c.followed-node.ensures.same
    (seen-node g c.followed-node.result.index c.view.result.now c.is_sound.ensures c.view.ensures))
