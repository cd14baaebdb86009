use Rattle.std.proofs.Common.{◌++◌}
use Rattle.std.specs.Prelude.{codes}
use Rattle.term_print.specs.Sequents.{names_bytes}
use Rattle.term_print.proofs.WrittenLemmas.{gains-later, gains-front, on-err}
use Rattle.term_print.proofs.sequent.write_scope.Goals as goal

pub returns-in_err-write_names-clause-err : goal.returns-in_err-write_names-clause-err
returns-in_err-write_names-clause-err c = on-err c.from_residual-in_err-write_names.result
    (gains-later (codes "delayed [") (names_bytes c.args.depth ++ codes "] [") c.args.out.now c.push_slice.new.self c.write_names.new.out c.in_ok-push_slice.ensures.ok
    (gains-front (names_bytes c.args.depth) (codes "] [") c.push_slice.new.self c.write_names.new.out c.in_err-write_names.ensures.err))
