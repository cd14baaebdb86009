use Rattle.std.proofs.Common.{◌∙◌, sym, subst, reverse, []}
use Rattle.std.proofs.lemmas.Result.{IfOk-weaker}
use Rattle.level_terms.proofs.GrowthLemmas.{grows-refl}
use Rattle.beta_fragment.specs.HeadForm.{IsHeadForm}
use Rattle.beta_fragment.specs.inside.Cells.{terms_of, term_at}
use Rattle.beta_fragment.proofs.QuotableLemmas.{quotable-spine}
use Rattle.beta_fragment.proofs.settling.settled.Goals as goal

pub returns-in_err-t-clause-grows : goal.returns-in_err-t-clause-grows
returns-in_err-t-clause-grows c = grows-refl c.args.heap.now []

pub form_of-requires-clause-quotable : goal.form_of-requires-clause-quotable
form_of-requires-clause-quotable c =
    quotable-spine c.args.heap.now c.args.depth c.args.head.index c.args.levels.now (reverse c.args.args.now) (term_at (terms_of c.evaluated.new.cells) c.in_ok-t.t) c.is_sound.ensures c.requires.head c.requires.below c.requires.args c.in_ok-t.ensures.reads.term c.in_ok-t.ensures.variables

pub returns-clause-form : goal.returns-clause-form
returns-clause-form c = IfOk-weaker c.form_of.result _ _
    (λ w f u k. subst (λ x. IsHeadForm c.form_of.new.heap c.args.depth x w) (c.in_ok-t.ensures.reads.term ∙ sym k.reads) f)
    c.form_of.ensures.form
