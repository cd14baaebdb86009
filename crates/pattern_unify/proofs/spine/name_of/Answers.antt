use Rattle.std.proofs.Common.{◌∙◌, ap, option_map}
use Rattle.level_terms.specs.Reading.{read}
use Rattle.ref_terms.specs.unification.Pattern.{of_name}
use Rattle.beta_fragment.specs.Names.{names}
use Rattle.pattern_unify.proofs.SpineNameLemmas.{name-from_form, name-below}
use Rattle.pattern_unify.proofs.spine.name_of.Goals as goal

pub returns-clause-name : goal.returns-clause-name
returns-clause-name c =
    ap (option_map of_name) c.name_in.ensures
    ∙ name-from_form c.whnf.new.heap c.args.depth (read c.args.heap.now c.args.t.index names) c.in_ok-form.form c.in_ok-form.ensures.form

pub returns-clause-below : goal.returns-clause-below
returns-clause-below c =
    name-below c.args.heap.now c.args.t.index c.args.depth c.name_in.result c.requires
    (ap (option_map of_name) c.name_in.ensures
    ∙ name-from_form c.whnf.new.heap c.args.depth (read c.args.heap.now c.args.t.index names) c.in_ok-form.form c.in_ok-form.ensures.form)
