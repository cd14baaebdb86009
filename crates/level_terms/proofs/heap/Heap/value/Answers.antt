use Rattle.std.proofs.Common.{◌<◌, length, option_map, ◌∙◌, ap, sym, arith, subst}
use Rattle.std.proofs.lemmas.List.{length-map}
use Rattle.level_terms.specs.Graph.{value_in}
use Rattle.level_terms.specs.Sound.{IsSound}
use Rattle.level_terms.proofs.CellLemmas.{cell_value-get}
use Rattle.level_terms.proofs.ValidLemmas.{some_valid}
use Rattle.level_terms.proofs.heap.Heap.value.Goals as goal

pub returns-clause-value : goal.returns-clause-value
returns-clause-value c =
    let cells = c.self.inside.cells.items in
    let known : c.args.v.index < length cells = omega (arith, c.requires, ap (λ g. length g.depths) c.self.view_is, length-map cells (λ x. x.depth)) in
    ap (λ x. option_map (λ t. t.index) x.value) c.index.ensures
    ∙ sym (cell_value-get c.self.inside.cells.items c.args.v.index c.index.result.now known)
    ∙ c.self.invariant.consistent.values c.args.v.index
    ∙ ap (λ g. value_in g.assigned c.args.v.index) c.self.view_is

pub returns-clause-valid : goal.returns-clause-valid
returns-clause-valid c = some_valid c.args.self.now (subst IsSound c.self.view_is c.self.invariant.sound) _ c.args.v.index (returns-clause-value c)
