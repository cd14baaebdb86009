use Rattle.std.proofs.Common.{◌∙◌, sym, None, Some, []}
use Rattle.level_terms.proofs.GrowthLemmas.{grows-refl}
use Rattle.level_terms.specs.Reading.{read}
use Rattle.beta_fragment.specs.Names.{names}
use Rattle.clause_key.proofs.ArgumentLemmas.{argument-valid, key-read}
use Rattle.clause_key.proofs.call.key_of_call.Goals as goal

pub returns-in_default-clause-key : goal.returns-in_default-clause-key
returns-in_default-clause-key c = sym (key-read c.args.heap.now c.args.inputs.now c.args.args.now None (sym c.key_argument.ensures ∙ c.in_default.is))

pub returns-in_default-clause-grows : goal.returns-in_default-clause-grows
returns-in_default-clause-grows c = grows-refl c.args.heap.now []

pub whnf-requires : goal.whnf-requires
whnf-requires c = argument-valid c.args.heap.now c.args.depth c.args.inputs.now c.args.args.now c.in-Some.arg (sym c.key_argument.ensures ∙ c.in-Some.is) c.requires

pub returns-clause-key : goal.returns-clause-key
returns-clause-key c =
    c.key_of_form.ensures c.whnf.new.heap c.args.depth (read c.args.heap.now c.in-Some.arg.index names) c.in_ok-form.ensures.form
    ∙ sym (key-read c.args.heap.now c.args.inputs.now c.args.args.now (Some c.in-Some.arg) (sym c.key_argument.ensures ∙ c.in-Some.is))
