use Rattle.level_terms.specs.Reading.{read}
use Rattle.beta_fragment.specs.Names.{names}
use Rattle.builtins.proofs.questions.is_variable.Goals as goal

pub returns-clause-variable : goal.returns-clause-variable
returns-clause-variable c = c.is_flexible.ensures c.whnf.new.heap c.args.depth (read c.args.heap.now c.args.t.index names) c.in_ok-form.ensures.form
