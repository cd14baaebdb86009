use Rattle.std.proofs.Common.{refl, sym, ap, ◌∙◌}
use Rattle.dance_list.specs.Dance.{linked}
use Rattle.dance_list.proofs.Dances.{unlink-here, cell-at, one-cell}
use Rattle.dance_list.proofs.list.DanceList.step.Goals as goal

pub get-cell-requires : goal.get-cell-requires
get-cell-requires g c =
    let i = c.self.inside in let req = c.requires in
    unlink-here i.chain.cells.blocks i.chain.first i.chain.last i.nodes.items i.history.linked i.history.unlinked c.args.n (c.args.n, req.1, req.0, req.2) refl c.self.invariant.0 (ap linked c.self.view_is ∙ req.3)

pub returns : goal.returns
returns g c = λ ls x ms e.
    let i = c.self.inside in
    let is = one-cell i.chain.cells.blocks c.args.n _ c.get-cell.result.now (cell-at i.chain.cells.blocks i.chain.first i.chain.last i.nodes.items i.history.linked i.history.unlinked c.self.invariant.0 ls ms c.args.n x (ap linked c.self.view_is ∙ e)) c.get-cell.ensures in
    (ap (λ z. z.after) (sym is), ap (λ z. z.item) (sym is))
