use Rattle.std.proofs.Common.{length}
use Rattle.beta_fragment.specs.inside.Cells.{terms_of}
use Rattle.beta_fragment.proofs.evaluating.level_term.Goals as goal

pub kept_cell-requires : goal.kept_cell-requires
kept_cell-requires c = c.entry_cell-cell.ensures.parts (length (terms_of c.args.cells.now))
