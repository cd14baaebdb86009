use Rattle.std.proofs.Common.{◌++◌, ◌∷◌, []}
use Rattle.std.specs.Prelude.{flat_map}
use Rattle.ref_terms.specs.texts.Text.{escaped}
use Rattle.term_print.proofs.WrittenLemmas.{gains-later, gains-front, on-err}
use Rattle.term_print.proofs.head.write_string.Goals as goal

pub returns-in_err-write_all_escaped-clause-err : goal.returns-in_err-write_all_escaped-clause-err
returns-in_err-write_all_escaped-clause-err c =
    on-err c.from_residual-in_err-write_all_escaped.result (gains-later (34 ∷ []) (flat_map escaped c.args.text.now ++ 34 ∷ []) c.args.out.now c.push.new.self c.write_all_escaped.new.out c.in_ok-push.ensures.ok
    (gains-front (flat_map escaped c.args.text.now) (34 ∷ []) c.push.new.self c.write_all_escaped.new.out c.in_err-write_all_escaped.ensures.err))
