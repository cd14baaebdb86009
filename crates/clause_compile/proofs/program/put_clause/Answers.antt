use Rattle.std.proofs.Common.{rules, ◌≡◌, ◌∙◌, ap, sym, false, is_some, replicate, Some, option_map}
use Rattle.ref_terms.specs.declared.sym.Sym.{Sym}
use Rattle.lp_resolve.specs.Heads.{constant_of}
use Rattle.lp_resolve.specs.Preds.{pred_at}
use Rattle.clause_compile.proofs.PredLemmas.{clause-made, none-of}
use Rattle.clause_compile.proofs.program.put_clause.Goals as goal

pub returns : goal.returns
returns c =
    let name = c.in-Some.name.0 in
    let head : constant_of c.args.clause.now.head ≡ Some name = sym c.constant_of.ensures ∙ ap (option_map (λ (s : Sym). s.0)) c.in-Some.is in
    let no : is_some (pred_at name c.args.preds.now) ≡ false = search rules in
    let items : c.in_ok-vec.field-0.items ≡ replicate c.arity_of.result false = search rules in
    clause-made c.args.clause.now name c.from_vec-inputs.result c.args.preds.now c.insert.new.self head (c.from_vec-inputs.ensures ∙ items ∙ ap (λ n. replicate n false) c.arity_of.ensures)
    (none-of (pred_at name c.args.preds.now) no) c.in_ok-insert.ensures.ok
