use Rattle.level_terms.specs.Reading.{read}
use Rattle.beta_fragment.specs.Names.{names}
use Rattle.goal_form.proofs.kind.goal_kind_of.Goals as goal

pub returns-clause-kind : goal.returns-clause-kind
returns-clause-kind c = c.kind_of_form.ensures c.whnf.new.heap c.args.depth (read c.args.heap.now c.args.t.index names) c.in_ok-form.ensures.form
