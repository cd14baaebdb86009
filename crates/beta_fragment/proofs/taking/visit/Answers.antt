use Rattle.std.proofs.Common.{Some, ap, sym, ◌∙◌}
use Rattle.beta_fragment.specs.inside.Cells.{terms_of}
use Rattle.beta_fragment.specs.inside.Taking.{images, replaced}
use Rattle.beta_fragment.proofs.TakingLaws.{image-inside}
use Rattle.beta_fragment.proofs.taking.visit.Goals as goal

pub keep-requires-then-i-under-clause-stays : goal.keep-requires-then-i-under-clause-stays
keep-requires-then-i-under-clause-stays c =
    ap (replaced (images (terms_of c.args.cells.now) c.args.put c.args.under)) c.in-Bound.ensures.term ∙ image-inside (terms_of c.args.cells.now) c.args.put c.args.under c.in-Bound.i c.if-i-under.true
    ∙ ap Some (sym c.in-Bound.ensures.term)
