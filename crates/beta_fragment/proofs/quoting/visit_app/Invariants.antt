use Rattle.beta_fragment.specs.inside.Cells.{terms_of}
use Rattle.beta_fragment.specs.inside.Quoting.{Unwinds}
use Rattle.beta_fragment.proofs.quoting.visit_app.Given as goal

abbrev pub invariant-loop-inner : goal.invariant-loop-inner
invariant-loop-inner l = Unwinds (terms_of l.cells) l.t l.head l.under l.done l.fn.work.items l.work.items

abbrev pub decreases-loop-inner : goal.decreases-loop-inner
decreases-loop-inner l = l.head
