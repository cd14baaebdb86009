use Rattle.level_terms.specs.Reading.{read}
use Rattle.beta_fragment.specs.Names.{names}
use Rattle.builtins.proofs.questions.is_name.Goals as goal

pub returns-clause-name : goal.returns-clause-name
returns-clause-name c = c.is_name_alone.ensures c.whnf.new.heap c.args.depth (read c.args.heap.now c.args.t.index names) c.in_ok-form.ensures.form
