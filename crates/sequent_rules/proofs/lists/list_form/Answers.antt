use Rattle.level_terms.specs.Reading.{read}
use Rattle.beta_fragment.specs.Names.{names}
use Rattle.sequent_rules.proofs.lists.list_form.Goals as goal

pub returns-clause-form : goal.returns-clause-form
returns-clause-form c = c.list_form_of.ensures c.whnf.new.heap c.args.depth (read c.args.heap.now c.args.t.index names) c.in_ok-form.ensures.form
