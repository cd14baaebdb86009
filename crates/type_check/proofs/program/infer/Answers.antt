use Rattle.std.proofs.Common.{◌∙◌, List, Option, inl, sym, ap}
use mathlib.Core.Path.{fun_ext}
use Rattle.type_terms.specs.declared.scheme.Polytype.{Polytype}
use Rattle.type_terms.specs.Read.{declared_of}
use Rattle.type_check.proofs.Whole.{inferred, caused}
use Rattle.type_check.proofs.program.infer.Goals as goal

pub returns-in-Some-clause-cause : goal.returns-in-Some-clause-cause
returns-in-Some-clause-cause c = inl (sym c.in_ok-breach.ensures ∙ c.in-Some.is)

pub returns-in_ok-declared-in-None-clause-typed : goal.returns-in_ok-declared-in-None-clause-typed
returns-in_ok-declared-in-None-clause-typed c =
    inferred c.args.symbols.now c.args.decls.now c.args.program.now (declared_of c.as_slice.result.now) c.len-count.result c.infer_types.result
    (sym c.in_ok-breach.ensures ∙ c.in-None.is)
    (ap (λ (types : List (Option Polytype)). declared_of types) c.as_slice.ensures.value ∙ fun_ext c.in_ok-declared-in-None.ensures)
    c.len-count.ensures c.infer_types.ensures.typed

pub returns-in_ok-declared-in-None-clause-cause : goal.returns-in_ok-declared-in-None-clause-cause
returns-in_ok-declared-in-None-clause-cause c =
    caused c.args.symbols.now c.args.decls.now c.args.program.now (declared_of c.as_slice.result.now) c.len-count.result c.infer_types.result
    (sym c.in_ok-breach.ensures ∙ c.in-None.is)
    (ap (λ (types : List (Option Polytype)). declared_of types) c.as_slice.ensures.value ∙ fun_ext c.in_ok-declared-in-None.ensures)
    c.len-count.ensures c.infer_types.ensures.cause
