use Rattle.std.proofs.Common.{◌<◌, ◌∙◌, ap, sym, length, Some, arith}
use Rattle.std.proofs.lemmas.List.{length-reverse}
use Rattle.std.proofs.lemmas.Option.{slice_get-get_or}
use Rattle.level_terms.proofs.ViewLemmas.{node_at-reverse}
use Rattle.level_terms.specs.Graph.{node_at}
use Rattle.level_terms.proofs.heap.Heap.view.Goals as goal

pub returns : goal.returns
returns c =
    let within : c.args.t.index < length c.self.inside.nodes.items = omega (arith, c.requires, ap (λ g. length g.nodes) c.self.view_is, length-reverse c.self.inside.nodes.items) in
    ap (λ g. node_at g.nodes c.args.t.index) (sym c.self.view_is)
    ∙ node_at-reverse c.self.inside.nodes.items c.args.t.index
    ∙ slice_get-get_or c.self.inside.nodes.items c.args.t.index c.index.result.now within
    ∙ ap Some (sym c.index.ensures)
