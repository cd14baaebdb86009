use Rattle.std.proofs.Common.{◌∙◌, sym, ap, subst}
use Rattle.std.specs.Prelude.{slice_get}
use Rattle.clause_key.specs.Passing.{IsNextFor}
use Rattle.clause_index.proofs.NumberLemmas.{next-for}
use Rattle.clause_index.proofs.index.Index.next_from.Goals as goal

pub returns : goal.returns
returns c = λ p w.
    subst (IsNextFor p c.args.pred.0 c.args.key c.args.from) (sym (c.next.ensures.first ∙ ap (λ xs. slice_get xs 0) (c.candidates_from-cands.ensures p w)))
    (next-for p c.args.pred.0 c.args.key c.args.from)
