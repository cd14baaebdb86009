use Rattle.std.proofs.Common.{◌≡◌, []}
use Rattle.level_terms.specs.Reading.{read}
use Rattle.level_terms.specs.Valid.{IsValid}
use Rattle.level_terms.specs.Growth.{Grows}
use Rattle.beta_fragment.specs.Names.{names}
use Rattle.hyp_clause.specs.inside.Forms.{forms_of, assumed_around, AreFormsAt}
use Rattle.hyp_clause.proofs.around.assumed_by.Given as goal

abbrev pub invariant-loop-at : goal.invariant-loop-at
invariant-loop-at l = record {
  reads : assumed_around l.heap (forms_of l.at) (read l.heap l.whole.index names) ≡ assumed_around l.fn.heap (forms_of l.fn.forms) (read l.fn.heap l.fn.term.index names);
  forms : AreFormsAt l.heap l.scope l.under (forms_of l.at);
  valid : IsValid l.heap l.whole.index l.under;
  variables : l.heap.depths ≡ l.fn.heap.depths;
  grows : Grows l.fn.heap l.heap [] [];
}
