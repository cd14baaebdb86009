use Rattle.term_print.proofs.WrittenLemmas.{gains-map, on-err}
use Rattle.term_print.proofs.head.write_all_escaped.Goals as goal

pub returns-in_err-write_escaped-clause-err : goal.returns-in_err-write_escaped-clause-err
returns-in_err-write_escaped-clause-err c = on-err c.from_residual.result (gains-map c.args.text.now c.loop-byte.byte-index c.args.out.now c.loop-byte.out c.write_escaped.new.out c.loop-byte.invariant c.in_err-write_escaped.ensures.err)
