use Rattle.std.proofs.Common.{◌∷◌, []}
use Rattle.beta_fragment.specs.inside.Cells.{terms_of, cell_term}
use Rattle.beta_fragment.proofs.evaluating.kept_cell.Goals as goal

pub returns-clause-gains : goal.returns-clause-gains
returns-clause-gains c = (cell_term (terms_of c.args.cells.now) c.args.cell ∷ [], c.in_ok-r.ensures.added)
