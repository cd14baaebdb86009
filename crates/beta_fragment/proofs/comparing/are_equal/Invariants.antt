use Rattle.std.proofs.Common.{◌≡◌, length}
use Rattle.beta_fragment.specs.inside.Cells.{terms_of, term_at}
use Rattle.beta_fragment.specs.inside.Compared.{AreThere, AllEqual, sides_size}
use Rattle.beta_fragment.proofs.comparing.are_equal.Given as goal

abbrev pub invariant-loop-sides : goal.invariant-loop-sides
invariant-loop-sides l = record {
  there : AreThere (length (terms_of l.cells)) l.work.items;
  whole : AllEqual (terms_of l.cells) l.work.items → term_at (terms_of l.cells) l.a ≡ term_at (terms_of l.cells) l.b;
  each : term_at (terms_of l.cells) l.a ≡ term_at (terms_of l.cells) l.b → AllEqual (terms_of l.cells) l.work.items;
}

abbrev pub decreases-loop-sides : goal.decreases-loop-sides
decreases-loop-sides l = sides_size (terms_of l.cells) l.work.items
