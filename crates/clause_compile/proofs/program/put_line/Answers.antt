use Rattle.std.proofs.Common.{rules, ◌≡◌, ◌∙◌, false, is_some}
use Rattle.lp_resolve.specs.Preds.{pred_at}
use Rattle.clause_compile.proofs.PredLemmas.{line-made, none-of}
use Rattle.clause_compile.proofs.program.put_line.Goals as goal

pub returns : goal.returns
returns c =
    let no : is_some (pred_at c.args.line.now.name.0 c.args.preds.now) ≡ false = search rules in
    line-made c.args.line.now c.from_vec-inputs.result c.args.preds.now c.insert.new.self (c.from_vec-inputs.ensures ∙ c.in_ok-from_slice.ensures.items ∙ c.as_slice.ensures)
    (none-of (pred_at c.args.line.now.name.0 c.args.preds.now) no) c.in_ok-insert.ensures.ok
