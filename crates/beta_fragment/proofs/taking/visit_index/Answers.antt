use Rattle.std.proofs.Common.{◌≡◌, length, reverse, Some, sym, ap, ◌∙◌, subst}
use Rattle.ref_terms.specs.terms.Term as term
use Rattle.ref_terms.specs.terms.Term.{Term}
use Rattle.beta_fragment.specs.inside.Cells.{terms_of, term_at}
use Rattle.beta_fragment.specs.inside.Taking.{IsImage, PartThere, IsHeadTerm, images, replaced}
use Rattle.beta_fragment.proofs.TakingSteps.{steps-none}
use Rattle.beta_fragment.proofs.taking.visit_index.Goals as goal

pub visit_other_index-requires-clause-becomes : goal.visit_other_index-requires-clause-becomes
visit_other_index-requires-clause-becomes c =
    let image = subst (IsImage (terms_of c.args.cells.now) c.args.put (images (terms_of c.args.cells.now) c.args.put c.args.under c.args.i)) c.in-Index.is (c.in_ok-j.ensures (terms_of c.args.cells.now)) in
    ap (replaced (images (terms_of c.args.cells.now) c.args.put c.args.under)) c.requires.here ∙ image

pub visit_part-requires-clause-there : goal.visit_part-requires-clause-there
visit_part-requires-clause-there c =
    let image = subst (IsImage (terms_of c.args.cells.now) c.args.put (images (terms_of c.args.cells.now) c.args.put c.args.under c.args.i)) c.in-Other.is (c.in_ok-j.ensures (terms_of c.args.cells.now)) in
    subst (PartThere (length (terms_of c.args.cells.now))) image.0 c.requires.put

pub visit_part-requires-clause-is_part : goal.visit_part-requires-clause-is_part
visit_part-requires-clause-is_part c =
    let image = subst (IsImage (terms_of c.args.cells.now) c.args.put (images (terms_of c.args.cells.now) c.args.put c.args.under c.args.i)) c.in-Other.is (c.in_ok-j.ensures (terms_of c.args.cells.now)) in
    image.0

pub visit_part-requires-clause-head : goal.visit_part-requires-clause-head
visit_part-requires-clause-head c = subst IsHeadTerm (sym c.requires.here) tt

pub visit_part-requires-clause-becomes : goal.visit_part-requires-clause-becomes
visit_part-requires-clause-becomes c =
    let image = subst (IsImage (terms_of c.args.cells.now) c.args.put (images (terms_of c.args.cells.now) c.args.put c.args.under c.args.i)) c.in-Other.is (c.in_ok-j.ensures (terms_of c.args.cells.now)) in
    ap (replaced (images (terms_of c.args.cells.now) c.args.put c.args.under)) c.requires.here ∙ image.1

pub returns-in-Nothing-clause-steps : goal.returns-in-Nothing-clause-steps
returns-in-Nothing-clause-steps c =
    let image = subst (IsImage (terms_of c.args.cells.now) c.args.put (images (terms_of c.args.cells.now) c.args.put c.args.under c.args.i)) c.in-Nothing.is (c.in_ok-j.ensures (terms_of c.args.cells.now)) in
    steps-none c.args.put (terms_of c.args.cells.now) (reverse c.args.work.now.items) (reverse c.args.done.now.items) c.args.part c.args.under (ap (replaced (images (terms_of c.args.cells.now) c.args.put c.args.under)) c.requires.here ∙ image)
